pub mod Counting
pub mod Deadlines
pub mod Reading
pub mod Testing
