pub mod Lines
pub mod Numbers
pub mod Printed
pub mod Arrays
pub mod Cases
pub mod Refusal13
