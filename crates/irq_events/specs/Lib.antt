pub mod Latch
pub mod Saving
pub mod Entries
pub mod Holds
pub mod PaceSaving
