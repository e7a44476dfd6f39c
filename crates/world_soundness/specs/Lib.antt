pub mod KeyLaws
pub mod Soundness
