pub mod Fields
pub mod Lines
pub mod Plan
pub mod Refusals
