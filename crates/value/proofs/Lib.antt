pub mod Laws
pub mod Bits
pub mod Means
pub mod Floats
pub mod Measured
pub mod Local
pub mod Pinned
