pub mod Standing
pub mod OnUnitStates
pub mod Holding
pub mod Reported
pub mod Fated
pub mod Resending
pub mod Requested
