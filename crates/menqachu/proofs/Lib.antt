pub mod Owners
pub mod Guaranteed
