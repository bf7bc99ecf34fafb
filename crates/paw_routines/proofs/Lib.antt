pub mod FunctionAnswers
pub mod Measures
pub mod ProgramAnswers
