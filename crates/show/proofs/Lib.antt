-- Laws that several proofs of `show` share.
pub mod Chunks
