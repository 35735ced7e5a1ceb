mod Common
pub mod Runs
mod Lists
mod Giving
mod Heading
mod Dues
mod Quieting
mod Leaping
mod Awaiting
