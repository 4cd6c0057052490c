pub mod Items
pub mod Laws
