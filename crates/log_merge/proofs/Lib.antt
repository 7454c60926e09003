pub mod Boxes
pub mod Chains
pub mod ClosingLaws
pub mod Covering
pub mod Halved
pub mod MergeLaws
pub mod LeafLaws
