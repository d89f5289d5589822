pub mod Cores
mod Edges
mod Insides
pub mod LostRequests
pub mod RequestViews
pub mod StateMoves
pub mod Needed
pub mod News
pub mod Opened
pub mod Placed
pub mod Quiet
pub mod RaisedAsks
pub mod ModuleMemories
pub mod Requested
pub mod RestingThread
mod RewordedSlots
pub mod CoreRows
pub mod Shown
pub mod Sight
mod FourFacts
pub mod Tellings
pub use Rattle.thread_requests.proofs.OpenCores
pub use Rattle.thread_requests.proofs.AllAsks
pub use Rattle.thread_requests.proofs.SpreadBanks
pub use Rattle.thread_states.proofs.ActLinks
