pub mod Order
pub mod Clean
