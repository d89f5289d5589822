pub mod RunEnd
pub mod RunStart
