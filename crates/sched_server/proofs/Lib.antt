mod Told
mod Answered
mod Handled
mod Followed
pub mod Stopped
pub mod Served
pub mod Begun
pub mod Lasting
mod Owners
mod Former
mod Standing
mod Determined
mod FirstCalls
