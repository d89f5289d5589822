pub mod Units
pub mod Works
