pub mod Characters
pub mod Trivia
pub mod PunctuationTexts
pub mod Scanning
pub mod Text
pub mod KeywordTexts
pub mod Sentences
