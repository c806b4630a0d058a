-- What the contracts of `frames` cite.
pub mod Frames
