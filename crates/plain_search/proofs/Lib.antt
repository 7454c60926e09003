pub mod FrontLaws
pub mod WalkLaws
pub mod NodeLaws
pub mod TailLaws
