pub mod Leaves
pub mod Orders
pub mod Gathered
pub mod Laws
pub mod AcceptedLaws
