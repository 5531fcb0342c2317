pub mod SmallSteps
pub mod LoneSteps
