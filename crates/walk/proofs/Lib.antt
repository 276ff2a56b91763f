-- Promises has document 01's sentences of what `walk` answers. StartLaws is for judging and the starts; Jumps says what a word that
-- leaves asks; BlockLaws is for the code of a block, HeadSteps for the loop over blocks.
pub mod StartLaws
pub mod Jumps
pub mod BlockLaws
pub mod HeadSteps
pub mod Promises
