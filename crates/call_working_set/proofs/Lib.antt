pub mod SetRows
pub mod KnownEdits
pub mod CallStates
pub mod UnitStates
pub mod OnUnitStates
pub mod Sums
