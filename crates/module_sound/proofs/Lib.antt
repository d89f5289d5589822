pub mod SignalOrder
pub mod FittingSources
pub mod SoundModule
