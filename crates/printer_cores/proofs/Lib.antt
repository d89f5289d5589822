pub mod SiteStrings
pub mod Sites
pub mod WrittenSite
pub mod PrinterTable
pub mod Values
pub mod PrinterStands
