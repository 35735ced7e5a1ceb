pub mod Spinning
pub mod Laying
pub mod Written
