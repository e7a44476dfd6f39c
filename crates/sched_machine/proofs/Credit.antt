-- What a call adds to the credit of a host and of a user, and upper bounds of credit.
pub mod Scored
pub mod Bounds
pub mod Resent
