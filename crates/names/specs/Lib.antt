-- What private contracts cite: the public ones cite crate format alone.
pub mod Words
