pub mod Words
pub mod Settles
pub mod Orders
pub mod Trees
mod OneSizeMore
