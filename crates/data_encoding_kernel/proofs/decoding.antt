-- Runs of whole groups.
pub mod GroupRunLemmas
pub mod JoinSizeLemmas
pub mod ShorterRunLemmas
pub mod FrontRunLemmas
pub mod SymbolRunLemmas
