pub mod RecordLaws
pub mod SpoolLaws
pub mod Files
