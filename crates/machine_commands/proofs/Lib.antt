pub mod Common
pub mod Idling
pub mod Accesses
pub mod Awaiting
pub mod Beginning
pub mod Bytes
pub mod Courses
pub mod FormatRigs
pub mod Identifying
pub mod Landing
pub mod Lasting
pub mod Moving
pub mod PastDriver
pub mod Preparing
pub mod ReadEndings
pub mod Seeing
pub mod SeekRigs
pub mod Seeking
pub mod Selecting
pub mod Statuses
pub mod Steps
pub mod WriteDone
pub mod WriteRigs
mod StationHandling
mod Standing
