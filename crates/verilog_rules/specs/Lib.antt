pub mod Signs
pub mod Phrases
pub mod Reading
pub mod Laws
pub mod Leads
