pub mod Replaying
pub mod Walking
pub mod SummaryLemmas
pub mod VerdictLemmas
pub mod LiveLemmas
pub mod OutputLemmas
