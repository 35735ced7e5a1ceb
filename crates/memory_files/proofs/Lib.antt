pub mod Files
pub mod Cuts
