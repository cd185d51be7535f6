pub mod text
pub mod decoding
pub mod specification
pub mod laws
