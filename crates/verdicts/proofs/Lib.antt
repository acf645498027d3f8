pub mod ArgumentLaws
pub mod TemplateLaws
pub mod VerdictLaws
pub mod PassLaws
pub mod Each
