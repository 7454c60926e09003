pub mod NameLaws
pub mod RowLaws
pub mod FormLaws
pub mod ToldLaws
pub mod LineLaws
pub mod TurnLaws
pub mod WholeLaws
