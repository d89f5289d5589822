pub mod Callees
pub mod Chosen
pub mod Cuts
pub mod Expressions
pub mod Joined
pub mod Lists
pub mod Sequences
pub mod Targets
