pub mod Texts
pub mod Words
pub mod SeenSet
pub mod Reading
