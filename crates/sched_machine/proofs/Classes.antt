-- The classes of versions that workunits keep to.
pub mod Words
pub mod Left
pub mod Kept
pub mod ByPlace
pub mod Owners
pub mod Sound
pub mod Runs
