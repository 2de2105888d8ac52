pub mod Set
pub mod Leaves
pub mod Laws
