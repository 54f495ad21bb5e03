pub mod Continuations
pub mod DeedLemmas
pub mod Filling
pub mod FreeLemmas
pub mod Lists
pub mod PartLemmas
pub mod Shapes
pub mod TreeLemmas
