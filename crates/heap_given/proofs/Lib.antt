pub mod AnswerLaws
pub mod CheckedLaws
pub mod FaultLaws
pub mod GivenLaws
pub mod HeaderLaws
