pub mod Before
pub mod Fronts
pub mod ValueLaws
pub mod OneLine
pub mod Lines
