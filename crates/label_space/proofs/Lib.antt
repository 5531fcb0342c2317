pub mod SpaceTurns
