-- What C sees of the product: numbers for answers, nine words for what a walk is given, and what a call hands back.
pub mod Numbers
pub mod Given
pub mod Handed
