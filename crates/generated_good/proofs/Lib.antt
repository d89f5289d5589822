mod FirstStatement
mod WorkerValues
mod SafeStatements
mod States
mod NextStates
mod WorkerSteps
mod CountedTurns
mod MainSteps
pub mod GeneratedGood
mod Rows
