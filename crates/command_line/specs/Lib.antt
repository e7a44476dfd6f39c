pub mod Numbers
pub mod Program
pub mod Orders
