pub mod Fitting
pub mod Openable
pub mod Example
pub mod ReadAgain
