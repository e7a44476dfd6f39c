-- A grant depends on nothing that the call changes before it, up to settlement.
pub mod Lists
pub mod Units
pub mod Hosts
pub mod Settled
