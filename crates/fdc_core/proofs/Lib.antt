mod Common
pub mod MayRead
pub mod Staying
pub mod Meanings
mod Laid
mod Put
pub mod Words
pub mod MayWrite
pub mod Waiting
pub mod Tellings
pub mod Feeding
pub mod Given
mod Taking
pub mod Coursing
pub mod Quieting
pub mod Foreseeing
pub mod Foreseen
pub mod Turning
pub mod Filling
pub mod Laying
pub mod Longest
mod AddressHeard
