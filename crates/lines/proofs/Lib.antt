-- Laws that belong to no one function.
pub mod Determined
pub mod FieldLaws
pub mod ReadingLaws
