pub mod Desks
pub mod Quiet
pub mod Sectors
