mod PrintCode
pub mod ReturnTargets
pub mod ReturnCode
pub mod Callees
mod OperandNumbers
pub mod Overfull
mod PthreadCode
mod ObjectNumbers
mod ReadyOperands
pub mod OpenCalls
mod Typed
