pub mod Streams
pub mod Adapters
pub mod Missing
pub mod Reading
pub mod Serving
