pub mod GiftLemmas
pub mod RowLemmas
pub mod DeedLemmas
