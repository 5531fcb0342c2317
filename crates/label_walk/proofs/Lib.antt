pub mod WalkTurns
pub mod LabelTurns
