-- Worked rows of the definitions.
pub mod Plain
pub mod Calls
pub mod Encoders
pub mod Specifications
pub mod Tables
