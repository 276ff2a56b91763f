-- The stack of waiting states: stable sorting, the words that hold it, what pushing does to them, and which words are a stack.
pub mod Sort
pub mod Stack
pub mod Push
pub mod Valid
