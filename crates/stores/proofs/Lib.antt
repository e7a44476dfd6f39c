pub mod ReadsAct
pub mod Results
pub mod Standing
