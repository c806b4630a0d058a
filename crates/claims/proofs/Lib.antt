-- One file a demand, and what belongs to all of them.
pub mod Demand1
pub mod Demand2
pub mod Demand3
pub mod Lookups
pub mod Determined
pub mod Starred
