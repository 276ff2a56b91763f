-- Laws that belong to no one function.
pub mod OverLaws
pub mod CloneLaws
pub mod SavedLaws
pub mod ResultLaws
