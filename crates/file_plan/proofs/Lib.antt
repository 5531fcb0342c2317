pub mod Joined
pub mod StageSteps
