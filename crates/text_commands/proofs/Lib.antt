mod Common
mod CallCounting
pub mod ParsedCalls
pub mod RanCalls
pub mod ServedCalls
mod PortRounds
pub mod NamedPorts
pub mod FinishingPorts
pub mod GuardingPorts
mod ExchangedPorts
pub mod JobRounds
