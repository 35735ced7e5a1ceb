mod Common
pub mod Readying
pub mod Calming
pub mod Placing
pub mod Fetching
