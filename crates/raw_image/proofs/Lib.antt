mod Common
pub mod Pairs
pub mod Bodies
pub mod Feeding
pub mod Tracks
pub mod Headers
pub mod Images
mod Splices
