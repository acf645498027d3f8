pub mod Texts
pub mod Le
pub mod Back
pub mod Agreement
pub mod Utf8
pub mod Encoding
pub mod Plain
