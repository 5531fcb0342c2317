pub mod TokenSteps
