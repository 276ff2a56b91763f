-- The report of visited words. Read Runs, Bytes, Reading, Marks, Answers in this order; Steps is for the code's own parts.
pub mod Runs
pub mod Bytes
pub mod Reading
pub mod Marks
pub mod Answers
pub mod Steps
