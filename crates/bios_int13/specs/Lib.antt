pub mod Services
pub mod Registers
pub mod Table
