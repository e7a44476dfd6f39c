-- A call is a step of the machine: this follows from the contracts of its parts.
pub mod Entry
pub mod Asked
pub mod Granted
pub mod Said
pub mod Settled
pub mod Done
pub mod Lost
pub mod Fit
pub mod Prepared
pub mod Choice
pub mod Taken
