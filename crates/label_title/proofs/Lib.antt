pub mod OpenTurns
