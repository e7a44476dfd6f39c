pub mod Arrays
pub mod FirstFault
pub mod InRange
pub mod Floats
pub mod Again
pub mod Unique
pub mod Others
