-- Determined is for callers; the others are what the proofs here cite.
pub mod Determined
mod RowLaws
mod NameLaws
mod PathLaws
mod PropertyLaws
