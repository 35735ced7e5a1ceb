pub mod Lines
pub mod Following
pub mod WordTimes
pub mod Heard
pub mod Hearing
pub mod Written
pub mod Writing
pub mod Spinning
