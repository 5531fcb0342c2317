pub mod TextTurns
