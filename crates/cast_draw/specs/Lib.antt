pub mod Gifts
pub mod MadeFrames
pub mod Deeds
pub mod Sheet
pub mod Drawn
