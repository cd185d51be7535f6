pub mod Fault
pub mod Partial
pub mod Decoding
pub mod Pieces
pub mod Printed
