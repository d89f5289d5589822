pub mod BoundLabels
pub mod Decisions
pub mod ControlSize
pub mod ControlGrowth
pub mod NestedStatements
pub mod OpenControl
pub mod Cuts
