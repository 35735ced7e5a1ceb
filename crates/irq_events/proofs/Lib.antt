pub mod InTime
pub mod Quiet
