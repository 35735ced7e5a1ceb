mod Common
mod FormatSteps
mod Putting
mod ReadSteps
mod Recorded
mod Rigs
mod WriteSteps
