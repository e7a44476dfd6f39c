pub mod Asked
pub mod Columns
pub mod Skips
pub mod Sorted
pub mod Pages
pub mod Users
pub mod Versions
pub mod WaitingWindow
