mod Common
pub mod Endings
pub mod Memories
pub mod Named
pub mod OtherBytes
