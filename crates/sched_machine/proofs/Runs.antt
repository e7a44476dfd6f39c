-- What holds between any two worlds of a run.
pub mod Between
pub mod Lasting
pub mod One
pub mod Users
pub mod Deadlines
pub mod Stretches
