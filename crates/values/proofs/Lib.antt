-- Determined is for callers; ValueLaws is what the proofs here cite.
pub mod Determined
mod ValueLaws
