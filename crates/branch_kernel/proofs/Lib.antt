pub mod RivalLaws
pub mod WithLaws
pub mod CoverLaws
pub mod GrowthLaws
pub mod NodeLaws
pub mod DropLaws
pub mod KnownLaws
pub mod SplitLaws
pub mod OrderLaws
pub mod CloseLaws
pub mod SettleLaws
pub mod EndLaws
pub mod WindowLaws
pub mod WalkLaws
pub mod BarLaws
pub mod MarkLaws
mod BesideLaws
