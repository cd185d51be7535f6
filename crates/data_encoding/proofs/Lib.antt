pub mod judgement
pub mod tables
pub mod text
pub mod decoding
pub mod vectors
