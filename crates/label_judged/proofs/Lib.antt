pub mod MarkTurns
pub mod JudgeTurns
