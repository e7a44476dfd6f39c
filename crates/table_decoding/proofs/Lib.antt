pub mod AppsPlaced
pub mod ClassesDecoded
pub mod Refusals
pub mod RowsInOrder
pub mod SettingsDecoded
pub mod WorldDecoded
