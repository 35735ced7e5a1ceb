pub mod Blanks
pub mod Loads
pub mod Session
pub mod Shapes
pub mod Tries
