pub mod Upgraded
pub mod Within
