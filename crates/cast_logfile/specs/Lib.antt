-- What several logs say together.
pub mod Merging
pub mod Fronts
