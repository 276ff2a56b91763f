-- Laws of images, for the crates above. Read SoundTables first: the others take what it gives.
pub mod SoundTables
pub mod Order
pub mod Apart
pub mod CodeWords
pub mod SectionLaws
pub mod EntryLaws
pub mod Cases
