mod Common
pub mod WordLemmas
pub mod TextLemmas
pub mod LogLemmas
pub mod LawLemmas
pub mod KeyLemmas
pub mod OrderLemmas
