mod Common
pub mod Writable
pub mod Changed
pub mod Joined
mod KeptKeys
pub mod KeptTracks
pub mod Laid
mod Lawful
mod Listed
mod ListedFields
pub mod MetTracks
mod Placed
pub mod RegularTracks
pub mod Rewritten
pub mod SameDisks
mod Tracks
pub mod WholeWindows
mod Intact
mod Looked
mod Pushed
mod RegularPlaces
mod Turned
mod ReadTurn
mod TurnOver
