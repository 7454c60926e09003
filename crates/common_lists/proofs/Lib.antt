pub mod EachLaws
pub mod FirstLaws
pub mod ListLaws
pub mod NumberLaws
