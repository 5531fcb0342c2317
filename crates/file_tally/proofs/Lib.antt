pub mod ReportLaws
pub mod Widths
