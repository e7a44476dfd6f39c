pub mod Counted
pub mod Plain
pub mod Refusing
pub mod Utf8
pub mod Visits
