pub mod FieldLines
pub mod Returned
