pub mod RunningStep
