pub mod FourKept
pub mod EntriesKept
pub mod RowsLead
pub mod Leads
pub mod DueFromStays
pub mod NewTables
pub mod Offered
pub mod Opened
pub mod Refusals
pub mod Reopened
pub mod Stops
pub mod Told
pub mod Upgraded
pub mod UpgradedTexts
pub mod TextsKept
mod Memory
