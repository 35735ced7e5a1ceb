mod Common
pub mod AdapterRuns
pub mod RateLemmas
mod AdapterStanding
mod Runs
mod Begun
mod Standing
pub mod Quieting
