-- Words says that nine words are what they were written from, Rooms that a stack has the room it was asked for, Handing what a caller in
-- C may count on.
pub mod Words
pub mod Rooms
pub mod Handing
