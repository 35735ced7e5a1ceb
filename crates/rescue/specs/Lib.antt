pub mod Log
pub mod Fields
pub mod Course
