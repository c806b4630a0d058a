-- Laws of putting an answer's numbers, of what is told, and that an answer's numbers determine it.
mod Puts
pub mod Parts
pub mod Determined
