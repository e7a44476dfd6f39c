pub mod Alikes
pub mod FirstRows
pub mod LastNumbers
pub mod PlainSchema
pub mod Quiet
pub mod Reopening
pub mod Rests
pub mod Visited
mod Unrun
