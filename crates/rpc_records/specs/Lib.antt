pub mod Members
pub mod Values
pub mod Reading
pub mod Order
pub mod Ranges
pub mod Spelling
pub mod Replies
pub mod HostNumbers
