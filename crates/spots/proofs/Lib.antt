pub mod FromAbove
