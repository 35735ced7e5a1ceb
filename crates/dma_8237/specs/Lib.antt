pub mod Channel
pub mod SetUp
pub mod Saving
