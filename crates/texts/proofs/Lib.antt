pub mod SeenKeys
pub mod Words
pub mod Digits
