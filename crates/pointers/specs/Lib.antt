pub mod Pointers
pub mod Rule
