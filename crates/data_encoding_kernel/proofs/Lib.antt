pub mod digits
pub mod decoding
pub mod text
pub mod vectors
pub mod packing
