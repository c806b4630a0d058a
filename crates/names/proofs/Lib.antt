-- Determined is for callers; NameLaws is what the proofs here cite, and `head_inside` of it what lookup's cite.
pub mod Determined
pub mod NameLaws
