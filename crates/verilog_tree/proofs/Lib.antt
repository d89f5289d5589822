pub mod Tests
pub mod Names
pub mod Fold
pub mod OneSplit
pub mod Fronts
pub mod Examples
