mod Common
pub mod OfForms
pub mod Archives
mod Completed
mod Courses
mod FormTimes
mod Endings
mod Fits
mod Replies
mod RescueStatus
mod Rescues
mod RescuesInTurn
mod Stepping
mod StepCauses
mod Inserting
mod KeptSteps
mod Protected
mod PortStatus
mod FormWords
mod SeekOrData
pub mod AlikeDisks
pub mod CallsAgree
pub mod CutTracks
pub mod FormatsAgree
pub mod PlaysAgree
pub mod RunsAgree
pub mod Shown
pub mod StepsAgree
pub mod Takes
mod JobRuns
