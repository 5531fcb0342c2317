pub mod JudgeTurns
