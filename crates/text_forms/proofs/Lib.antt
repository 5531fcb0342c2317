pub mod FormSteps
