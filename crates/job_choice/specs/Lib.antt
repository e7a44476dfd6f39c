pub mod Alike
pub mod Chosen
pub mod Choosing
pub mod Offered
pub mod Past
pub mod Seeking
