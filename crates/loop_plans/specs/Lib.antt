pub mod Carried
pub mod Fits
pub mod Listed
pub mod Scheduled
