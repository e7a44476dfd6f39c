pub mod Leftovers
pub mod Endings
pub mod Wire
pub mod Messages
pub mod Databases
pub mod Files
pub mod Runs
