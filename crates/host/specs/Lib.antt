pub mod Host
pub mod Worked
pub mod WorkedPaths
