-- What the contracts of `show` cite.
pub mod Chunks
pub mod Escaped
pub mod Told
