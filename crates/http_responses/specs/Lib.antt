pub mod Methods
pub mod Responses
pub mod Answers
