pub mod Common
pub mod Zeroes
pub mod Flats
pub mod Files
pub mod Forms
pub mod FormMaking
