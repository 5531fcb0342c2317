pub mod Labels
pub mod Texts
pub mod Numbers
pub mod Settled
pub mod Lengths
