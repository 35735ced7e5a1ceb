mod Common
pub mod Loops
pub mod Again
pub mod AgainTracks
pub mod Held
pub mod Places
pub mod Windowed
pub mod OnMedium
pub mod FoundAgain
pub mod Imaged
pub mod Mapped
