pub mod ReplayLines
pub mod Endings
