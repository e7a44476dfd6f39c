pub mod CallsInTurn
pub mod Comings
pub mod Writings
