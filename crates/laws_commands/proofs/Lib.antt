mod Common
mod CopiedDisk
mod CopiedTrack
pub mod CopyRun
mod Looks
pub mod Prepared
mod Ranges
mod DiskRecords
pub mod Sectors
pub mod Steps
pub mod TrackParts
pub mod Verified
pub mod VerifyRun
mod Written
mod WrittenHere
pub mod Bays
pub mod CommandEnds
mod Going
pub mod ScriptAccesses
pub mod SectorRequests
pub mod ExportRun
pub mod FlatEnds
pub mod ImportRun
mod Gone
pub mod RescueRecords
mod RescueGiven
pub mod RescueTargets
mod RescueOpening
pub mod Whole
mod RescueSteps
pub mod Order
pub mod Storing
pub mod ScriptStores
pub mod Turns
pub mod RequestTimes
pub mod CommandTimes
pub mod RescueTimes
