pub mod Laying
pub mod LaySteps
