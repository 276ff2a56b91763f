-- Numbers in groups of seven bits. Read Groups; Value says what a list of groups stands for.
pub mod Groups
pub mod Value
