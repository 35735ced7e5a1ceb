mod Common
pub mod Lawful
pub mod Causes
mod SearchWord
mod ReadWord
pub mod Bytes
pub mod Words
mod Gaps
mod Windowed
mod Keyed
mod Laying
mod Turned
pub mod Ended
mod Leading
pub mod Among
