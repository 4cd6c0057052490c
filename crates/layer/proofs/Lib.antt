pub mod Laws
pub mod Alike
