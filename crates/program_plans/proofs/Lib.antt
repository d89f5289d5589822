pub mod CodesInOrder
pub mod PlansInOrder
pub mod Zipped
