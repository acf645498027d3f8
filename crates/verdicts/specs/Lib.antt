pub mod Arguments
pub mod Template
pub mod Meaning
