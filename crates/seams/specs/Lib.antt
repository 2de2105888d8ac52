pub mod Seam
pub mod Laws
