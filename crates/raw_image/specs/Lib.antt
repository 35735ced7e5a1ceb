pub mod Disk
pub mod Words
pub mod Header
pub mod Shape
pub mod Image
pub mod Progress
pub mod Stage
