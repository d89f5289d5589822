pub mod Listed
pub mod OffersToAskers
pub mod OnePrinter
pub mod ToldFits
