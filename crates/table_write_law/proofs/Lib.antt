pub mod Abscissas
pub mod EightyBytes
pub mod Forms
pub mod Lengths
pub mod ReadBack
pub mod Written
