-- Worked rows of the definitions.
pub mod Affine
pub mod Offsets
