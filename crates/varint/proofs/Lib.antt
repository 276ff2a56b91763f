-- What holds of numbers in groups. Read GroupLaws, Stands, Shortest in this order.
pub mod GroupLaws
pub mod Stands
pub mod Shortest
