mod AppendedRows
pub mod NodeList
mod TableRows
pub mod OneByOne
pub mod Neighbours
