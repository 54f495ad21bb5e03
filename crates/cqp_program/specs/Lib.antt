pub mod Listing
pub mod Postorder
pub mod Programs
