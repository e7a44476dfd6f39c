mod HeadLemmas
mod NumberLemmas
mod FieldLemmas
mod RowLemmas
mod MeaningLemmas
mod KindLemmas
mod RouteLemmas
pub mod ImportLemmas
