pub mod Bytes
pub mod Stages
pub mod Fdcs
pub mod Chips
pub mod States
