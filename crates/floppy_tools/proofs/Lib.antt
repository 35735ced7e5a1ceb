mod Common
pub mod OnFiles
pub mod FormRuns
pub mod Tied
pub mod OnMachines
mod Ports
mod New
mod Unplanned
