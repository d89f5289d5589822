pub mod Same
pub mod Tables
pub mod PortTables
pub mod Cases
