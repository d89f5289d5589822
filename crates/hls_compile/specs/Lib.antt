pub mod Banks
pub mod Compiled
pub mod Plans
pub mod Served
pub mod Reported
