pub mod Maps
pub mod Drive
pub mod Ahead
pub mod Mechanics
pub mod PlainDrive
pub mod Fault
pub mod ScriptDrive
pub mod Saving
