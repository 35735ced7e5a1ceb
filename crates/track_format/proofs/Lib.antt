mod Common
pub mod Asked
mod Found
pub mod Laid
mod Narrow
mod Parts
mod Placed
pub mod Read
mod Runs
mod Steps
mod Tracked
