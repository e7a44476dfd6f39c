pub mod Laws
pub mod Classes
