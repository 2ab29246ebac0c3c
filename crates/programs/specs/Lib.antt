pub mod Counts
pub mod Printed
pub mod Said
pub mod StringAt
