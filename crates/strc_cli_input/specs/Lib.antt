pub mod Numbers
pub mod Reading
pub mod ReadAnswers
pub mod ReadInput
pub mod NumberReading
