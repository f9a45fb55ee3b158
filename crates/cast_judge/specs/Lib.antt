pub mod Candidates
pub mod Kept
pub mod Stands
pub mod Judges
pub mod Judged
pub mod ItemList
pub mod FitLines
