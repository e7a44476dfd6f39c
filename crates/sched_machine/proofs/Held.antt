-- What a host holds after its call, and what the reply says of it.
pub mod Settled
pub mod Jobs
pub mod Said
pub mod Results
pub mod Named
pub mod Now
