pub mod Added
pub mod Imported
pub mod Tallies
pub mod Touching
