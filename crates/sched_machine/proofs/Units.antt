-- Workunits stay well through reports, lapses, lost jobs and settlement.
pub mod Alike
pub mod Well
pub mod Lapsed
pub mod Reported
pub mod Lost
pub mod Grown
pub mod Settled
