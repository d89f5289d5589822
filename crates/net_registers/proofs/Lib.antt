pub mod RegisterGrowth
pub mod HeadLines
pub mod Listed
pub mod InstanceWalk
