pub mod DigitSteps
pub mod CountSteps
