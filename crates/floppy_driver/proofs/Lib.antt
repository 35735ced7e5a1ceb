mod Common
pub mod TriedWrites
pub mod TriedReads
pub mod SureAttempts
pub mod Rounds
pub mod Lasting
mod Acked
mod Asking
mod Attempts
mod FormatOnce
mod FormatReady
mod FormatStep
mod FormatTries
mod LaidTracks
mod Prepared
mod RateFound
mod ReadBacks
mod ReadOnce
mod ReadStep
mod ReadTries
mod Shows
mod Worked
mod Rising
mod CheckedWrites
mod WriteAttempts
mod WriteChanges
mod WriteTracks
mod WriteSteps
mod WriteEnds
mod WriteLoops
mod WriteStep
