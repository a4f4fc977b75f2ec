-- The machine on labels is the rules with limits, and these follow the rules without. To cite: Law (one step, a run, from
-- every sound configuration), Turned (every refusal and its reason), Search (all tries of a search), Exact and Near (the
-- same for any configuration that stands for a state), Stands (which ones do). Example works the rules through on Bare.
pub mod Denote
pub mod Asks
pub mod Tries
pub mod Leaves
pub mod Shown
pub mod Exact
pub mod Near
pub mod Fine
pub mod Stands
pub mod Law
pub mod Turned
pub mod Search
pub mod Example
pub mod KeptFresh
pub mod KeptLeaves
pub mod KeptWant
pub mod KeptWork
pub mod KeptValues
pub mod KeptVars
pub mod KeptMade
pub mod KeptStep
pub mod KeptRuns
