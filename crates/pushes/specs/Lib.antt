-- What the functions of this crate do to the lent words.
pub mod Takes
