pub mod LineLemmas
pub mod NameLemmas
pub mod NumberLemmas
pub mod SpellingLemmas
pub mod ValidLemmas
pub mod WordLemmas
