-- Section records lent as a list, and how they stand in the image's words.
pub mod Records
pub mod Written
