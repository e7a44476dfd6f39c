pub mod NumberTexts
pub mod Options
pub mod PlainProgram
pub mod Sayings
