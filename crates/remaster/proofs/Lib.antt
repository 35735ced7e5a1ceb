mod Common
pub mod Blanks
pub mod Disks
pub mod Fits
pub mod LineLists
pub mod LookedMore
pub mod OneList
pub mod Placed
pub mod Protected
pub mod Relays
pub mod SectorLists
