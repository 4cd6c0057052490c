pub mod Laws
pub mod Measures
pub mod Writes
