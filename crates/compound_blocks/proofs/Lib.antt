pub mod PassTurns
