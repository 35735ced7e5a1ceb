pub mod Entries
pub mod Protection
pub mod Saved
pub mod Passing
pub mod Alone
