-- The walk's laws. WalkLaws has document 01's sentences of every image, DataBlind what they depend on; Lists to Missed lead there, over
-- any ground. TurnLaws to Tallies and Stepping to HeadLaws are for the code of the walk.
pub mod Lists
pub mod Lawful
pub mod Pushes
pub mod Measure
pub mod Counts
pub mod WalkEnds
pub mod Starts
pub mod TurnLaws
pub mod RunLaws
pub mod Tallies
pub mod Reached
pub mod Waiting
pub mod Missed
pub mod HighBits
pub mod Blind
pub mod SoundGround
pub mod WalkLaws
pub mod DataBlind
pub mod Stepping
pub mod WordsInCode
pub mod StraightRuns
pub mod Leavings
pub mod StackWords
pub mod PileLaws
pub mod HeadLaws
pub mod Cases
