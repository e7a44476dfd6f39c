pub mod Stores
pub mod ListStores
pub mod Imports
pub mod Calls
