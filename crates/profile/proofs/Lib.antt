pub mod ReadTurns
