pub mod CheckSteps
