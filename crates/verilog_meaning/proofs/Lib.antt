pub mod Ranked
pub mod Operands
pub mod OneSettled
pub mod DistinctLists
pub mod Banks
