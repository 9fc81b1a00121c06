pub mod AskLemmas
pub mod Picking
pub mod WalkLaws
pub mod Bounds
pub mod LayoutLaws
pub mod SumLemmas
pub mod FinalLaws
pub mod KeptLaws
