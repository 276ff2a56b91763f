-- What holds of reports. RunLaws, Laying and ReadLaws serve the code; Standing, Fitting, Forth, Back, Showing and
-- Marking lead to Theorems; Cases has what writing and reading C13 leaves.
pub mod RunLaws
pub mod Laying
pub mod ReadLaws
pub mod Answering
pub mod Standing
pub mod Fitting
pub mod Forth
pub mod Back
pub mod Showing
pub mod Marking
pub mod Theorems
pub mod Numbers
pub mod Cases
