pub mod FigureSteps
