pub mod Commands
pub mod Lines
pub mod Rows
pub mod Laws
pub mod Examples
