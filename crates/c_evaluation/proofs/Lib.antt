pub mod Outcomes
pub mod OpenedParts
pub mod Sizes
