pub mod PageTurns
