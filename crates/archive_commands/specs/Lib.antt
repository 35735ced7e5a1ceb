pub mod Common
pub mod Files
pub mod Halts
pub mod Making
pub mod Surveys
