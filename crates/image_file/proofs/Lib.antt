-- What holds of image files.
pub mod Copying
pub mod Judging
