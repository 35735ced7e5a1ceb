pub mod Gaps
pub mod Keys
pub mod Reads
pub mod Streams
pub mod Saving
