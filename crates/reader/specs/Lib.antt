-- What the promises cite.
pub mod Outcomes
