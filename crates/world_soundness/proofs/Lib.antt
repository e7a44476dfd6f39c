pub mod InPairs
pub mod KeysOnce
