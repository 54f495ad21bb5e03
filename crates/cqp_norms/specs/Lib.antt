pub mod Laws
pub mod StateStands
