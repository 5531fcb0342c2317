pub mod PointSteps
