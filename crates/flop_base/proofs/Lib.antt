pub mod Costs
pub mod Counted
