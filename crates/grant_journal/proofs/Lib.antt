pub mod Framed
pub mod BoardKept
pub mod Commits
pub mod Offers
pub mod LoneTurns
