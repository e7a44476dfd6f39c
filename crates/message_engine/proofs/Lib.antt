pub mod EntriesKept
mod CallsServed
mod ImportsServed
mod TicksServed
pub mod KeptStanding
