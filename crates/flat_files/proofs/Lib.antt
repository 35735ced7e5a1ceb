mod Common
pub mod Filed
pub mod Valid
pub mod Places
pub mod FormValid
pub mod Alike
pub mod Again
pub mod Refused
pub mod Fit
pub mod Standard
