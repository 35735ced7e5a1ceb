mod Common
pub mod Running
pub mod Looping
pub mod Reading
pub mod Passed
mod Opened
pub mod DumpLines
