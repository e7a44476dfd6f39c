pub mod Sounds
pub mod Holds
pub mod Calls
pub mod Owners
pub mod Determined
