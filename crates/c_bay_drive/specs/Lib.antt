pub mod Bays
pub mod Joined
pub mod WithMedium
pub mod Saving
