-- What is shown of the words that are written.
pub mod WrittenLaws
pub mod Read
