pub mod Views
pub mod Leaves
pub mod Laws
pub mod Examples
pub mod Ancestors
