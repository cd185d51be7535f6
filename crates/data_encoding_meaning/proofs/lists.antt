-- Lists: what every element has, positions, and lists cut into pieces.
pub mod RunLemmas
pub mod ListLemmas
pub mod PartLemmas
pub mod PieceLemmas
pub mod EachLemmas
pub mod EndLemmas
pub mod RepeatLemmas
pub mod WriteLemmas
pub mod WholeRunLemmas
