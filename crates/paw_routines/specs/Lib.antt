pub mod Answers
pub mod Routines
pub mod Measure
pub mod Program
