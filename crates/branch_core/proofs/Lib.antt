pub mod SolveLaws
pub mod RegionLaws
pub mod HitLaws
pub mod EmptyLaws
pub mod ProperLaws
pub mod AnswerLaws
pub mod StoredLaws
