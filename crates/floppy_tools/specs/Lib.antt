pub mod Common
pub mod Programs
pub mod Machines
pub mod Performed
pub mod Drives
pub mod Plans
pub mod PlanVariable
pub mod Runs
