pub mod DirectionLaws
pub mod SideLaws
pub mod JoinLaws
pub mod ObstacleLaws
