-- The rows of a sound world stay sound.
pub mod Kept
pub mod Listed
pub mod Grant
pub mod Entry
pub mod Fresh
pub mod Named
pub mod Import
pub mod Admitted
pub mod Added
