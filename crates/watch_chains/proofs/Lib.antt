pub mod ListLaws
pub mod NodeLaws
pub mod PathLaws
pub mod RingLaws
pub mod RestoreLaws
pub mod SoundLaws
