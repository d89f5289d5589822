pub mod Threaded
pub mod Slots
pub mod Same
pub mod Members
pub mod Taking
pub mod Changing
pub mod Laws
