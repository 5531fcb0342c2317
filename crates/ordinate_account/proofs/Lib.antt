pub mod MeanLaws
