pub mod UnitState
pub mod WorkingSets
