-- Laws of jump tables. For the reader: Corners, Listed, EntrySet, GuessEnds, SizedWords, Examined, Cases.
-- The others serve the proofs of the functions.
pub mod Inserting
pub mod Shifting
pub mod TablePlaces
pub mod FourBytes
pub mod GuessEnds
pub mod SizedWords
pub mod Passing
pub mod Gathering
pub mod Outcomes
pub mod EntrySet
pub mod Corners
pub mod Listed
pub mod Examined
pub mod Cases
