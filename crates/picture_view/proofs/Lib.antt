pub mod MeasureLaws
pub mod Shown
pub mod Lengths
