-- The text of data, by the tables of an encoding.
pub mod AppendLemmas
pub mod DataPieceLemmas
pub mod LinePieceLemmas
pub mod LineTableLemmas
pub mod PadLemmas
pub mod WholeLineLemmas
