mod Leftovers
mod Messages
mod Stores
mod Databases
mod InFiles
mod Runs
