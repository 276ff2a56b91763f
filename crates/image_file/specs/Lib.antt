-- The image file. Read Reading; Writing says which bytes are the file of what.
pub mod Reading
