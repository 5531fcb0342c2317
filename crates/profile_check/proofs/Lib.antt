pub mod CheckTurns
