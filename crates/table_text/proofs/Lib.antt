pub mod ByteSteps
pub mod NumberSteps
pub mod AnswerSteps
pub mod SmallSteps
