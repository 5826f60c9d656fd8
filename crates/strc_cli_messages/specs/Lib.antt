pub mod RefusalWords
pub mod RuleWords
pub mod Sentences
pub mod Sites
pub mod Told
