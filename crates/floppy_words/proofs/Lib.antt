pub mod DashLemmas
pub mod NameLemmas
pub mod NumberLemmas
pub mod PlaceLemmas
pub mod PortsLemmas
