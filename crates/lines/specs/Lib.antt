-- What the contracts of `lines` cite.
pub mod Fields
pub mod Reading
