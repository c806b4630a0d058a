pub mod Outcomes
pub mod Tokens
pub mod Numbers
pub mod Rounding
pub mod Strings
pub mod Parts
pub mod Determined
