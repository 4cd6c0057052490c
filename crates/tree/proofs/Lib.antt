pub mod Accepts
pub mod Refuses
pub mod Local
pub mod Appended
pub mod Cut
pub mod Inside
pub mod Pinned
