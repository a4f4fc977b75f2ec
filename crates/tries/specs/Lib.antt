-- Labels: the machine that a search walks through.
pub mod Labels
