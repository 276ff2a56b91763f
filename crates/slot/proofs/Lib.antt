-- Laws that belong to no one function.
pub mod PutLaws
pub mod SlotLaws
pub mod SameLaws
pub mod BlankLaws
