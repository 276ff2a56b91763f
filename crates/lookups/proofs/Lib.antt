-- Laws of the lookups: places with data and in code, places in ascending order, document 01's corners.
pub mod SoundSections
pub mod CodeBytes
pub mod WordNumbers
pub mod Within
pub mod PlaceKeys
pub mod Halves
pub mod Corners
pub mod Targets
pub mod Cases
