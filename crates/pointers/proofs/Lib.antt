pub mod PointerLaws
pub mod RuleLaws
pub mod Fields
pub mod Acceptance
pub mod Example
