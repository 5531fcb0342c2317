pub mod LineSteps
pub mod TextSteps
