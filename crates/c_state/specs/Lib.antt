pub mod View
pub mod Change
pub mod Kind
pub mod Fresh
