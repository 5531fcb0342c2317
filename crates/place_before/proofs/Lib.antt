pub mod Completes
pub mod Legal
pub mod LineStops
pub mod Samples
pub mod Stays
pub mod ValueLaws
pub mod AllStays
