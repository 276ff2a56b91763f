-- The image and its rules. Read Numbers, Layout, Rules, Laid in this order.
pub mod Numbers
pub mod Layout
pub mod Rules
pub mod Laid
