pub mod Common
pub mod Counted
pub mod Drives
pub mod Found
pub mod Laid
pub mod Put
pub mod Shown
pub mod Sent
