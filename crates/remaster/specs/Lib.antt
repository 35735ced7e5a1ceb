pub mod Common
pub mod Fit
pub mod Looked
pub mod Relaid
pub mod Remastered
pub mod Sectors
pub mod Survey
