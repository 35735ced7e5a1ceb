mod Moves
pub mod RunSteps
pub mod Leaping
