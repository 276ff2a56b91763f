-- What holds of visited maps. Read BitLaws, Clearing, Counting, Visits, Histories in this order.
pub mod BitLaws
pub mod Clearing
pub mod Counting
pub mod Visits
pub mod Histories
