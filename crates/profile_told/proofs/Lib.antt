pub mod ToldTurns
