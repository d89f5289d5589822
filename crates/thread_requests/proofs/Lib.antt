pub mod AllAsks
mod Named
pub mod OpenCores
pub mod OutputPorts
pub mod BankAsks
pub mod SpreadBanks
pub mod Wanted
pub mod RequestWires
pub mod Needs
