pub mod Trace
pub mod Tracing
