pub mod ReadSpellings
pub mod WriteSpellings
mod Spellings
pub mod Answering
pub mod SeekRuns
