-- Laws of first matches and of tests at every number.
pub mod FirstLaws
pub mod FirstMatch
pub mod EveryLaws
pub mod Conjunction
pub mod Answers
pub mod Chains
