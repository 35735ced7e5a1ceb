pub mod Lines
pub mod MemShelf
pub mod MemSink
pub mod Shelves
pub mod Words
