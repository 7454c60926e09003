pub mod AnswerLaws
pub mod FileLaws
pub mod LoadLaws
pub mod OutcomeLaws
