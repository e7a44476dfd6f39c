pub mod Changes
pub mod Keys
pub mod OneWorld
pub mod Readable
pub mod ReadBack
pub mod RowsOf
pub mod StoredWorld
pub mod Totals
