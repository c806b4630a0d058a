-- Outcomes for callers, Determined for readers; Expected is for the proofs here alone.
mod Expected
pub mod Outcomes
pub mod Determined
