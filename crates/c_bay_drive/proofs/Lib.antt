pub mod Exchanges
pub mod Joining
pub mod Shown
