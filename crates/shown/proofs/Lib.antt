-- Laws of counting and seeking in a map, and of sound tables.
pub mod Counting
pub mod Seeking
pub mod Tables
