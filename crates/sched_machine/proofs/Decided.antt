-- What is decided about a workunit stays: its canonical result, its verdicts, its status, its credit.
pub mod Good
pub mod Units
pub mod Changes
pub mod Steps
pub mod Worlds
pub mod Runs
pub mod Sums
