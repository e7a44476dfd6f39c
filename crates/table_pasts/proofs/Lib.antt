mod Upgraded
mod Stopped
