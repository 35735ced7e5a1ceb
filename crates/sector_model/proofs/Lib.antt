mod Common
mod Counted
mod Courses
pub mod JobTimes
pub mod PlayTies
pub mod Runs
mod Ties
