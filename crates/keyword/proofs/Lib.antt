pub mod WordTurns
