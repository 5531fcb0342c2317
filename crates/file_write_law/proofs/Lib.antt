pub mod Accepted
pub mod Found
pub mod Labels
pub mod Lengths
pub mod Settled
pub mod GivenBack
