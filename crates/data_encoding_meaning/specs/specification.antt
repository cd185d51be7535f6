pub mod Fields
pub mod MeaningTable
pub mod Entries
pub mod Layout
pub mod OneLayout
pub mod Predefined
pub mod Named
