pub mod Fates
pub mod Holding
pub mod Fated
pub mod UnitStates
pub mod Laws
pub mod Requested
