pub mod Kinds
pub mod Eras
pub mod Held
pub mod Acting
pub mod Standing
