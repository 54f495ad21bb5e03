pub mod Bound
pub mod Free
pub mod Laws
pub mod Parts
