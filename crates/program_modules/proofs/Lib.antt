pub mod Numbers
pub mod ModuleCount
pub mod Few
