-- Beside the proofs of the functions: one turn of the loop (Loops), where it stops (Shorter, Full); what a step gives a run
-- (Stepping); a run is the step folded (Folds); the run of any configuration (Whole), for every input the checked step
-- folded (Folded).
pub mod Loops
pub mod Shorter
pub mod Full
pub mod Stepping
pub mod Folds
pub mod Whole
pub mod Folded
