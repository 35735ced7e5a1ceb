-- The definitions that clauses cite, by the subjects of the code.
pub mod Disk
pub mod Track
pub mod Controller
pub mod Machine
pub mod Driver
pub mod Program
