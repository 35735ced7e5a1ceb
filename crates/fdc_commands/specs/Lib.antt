pub mod Reads
pub mod Writes
pub mod Table
pub mod Results
pub mod Saving
pub mod Spelled
pub mod Seeking
pub mod Runs
