pub mod Digits
pub mod Words
pub mod Verbs
pub mod Laws
pub mod Examples
