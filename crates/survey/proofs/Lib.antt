pub mod Exits
-- Laws for callers (FoundLaws, ReserveLaws, Determined) and for the proofs here.
pub mod CountLaws
pub mod Determined
pub mod FoundLaws
pub mod HeaderLaws
pub mod ReserveLaws
pub mod SurveyLaws
