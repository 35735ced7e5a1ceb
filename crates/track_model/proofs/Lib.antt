mod Common
pub mod Aligned
mod ByteRows
mod CrcBits
mod CrcRegister
mod CrcRows
pub mod CrcSteps
pub mod Cuts
pub mod EmptyWindow
pub mod Frames
pub mod Kept
pub mod Laid
pub mod Legals
pub mod Numbers
pub mod OwnField
pub mod OwnLooks
pub mod Parted
pub mod Places
pub mod Recorded
pub mod Seams
pub mod Sectored
pub mod Sizes
pub mod Spans
pub mod Splices
pub mod Torn
pub mod Unique
pub mod WindowMarks
pub mod WindowWords
pub mod Written
mod CrcTable
mod CellTables
mod Pairs
