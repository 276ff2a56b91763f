-- What a word does: read Arms beside vm.rs, then Ways (its branch arm), Step (the state and the refusals), Runs.
pub mod Arms
pub mod Ways
pub mod Step
pub mod Runs
