pub mod TextLaws
pub mod WordLaws
pub mod BackLaws
pub mod RowLaws
pub mod EncodingLaws
pub mod EdgeLaws
pub mod LetterLaws
