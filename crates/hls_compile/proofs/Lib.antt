pub mod CoreNames
pub mod MadeText
pub mod ReportedCores
