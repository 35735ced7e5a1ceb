mod Common
pub mod Serving
