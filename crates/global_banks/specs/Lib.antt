pub mod Banks
pub mod Elements
