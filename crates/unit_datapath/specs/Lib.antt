pub mod Kinds
pub mod Words
pub mod States
pub mod Inputs
pub mod Links
pub mod Results
pub mod Counts
pub mod Units
