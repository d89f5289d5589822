pub mod OpenedNet
pub mod TextRun
