pub mod Controllers
pub mod Disks
pub mod Holders
pub mod Machines
pub mod Shelves
pub mod Trays
