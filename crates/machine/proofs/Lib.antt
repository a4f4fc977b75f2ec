-- Beside the proofs of the functions: one turn of each loop (Loops), and std's chains over a range or a list (Ranges); a record put
-- behind those of a table (Recording); the claim judged over records is the claim over events (Judged); events shown as
-- what they are (Real); the step of any configuration (Checked), and that it is the rules, each refusal exactly when its
-- reason holds (Public).
pub mod Loops
pub mod Ranges
pub mod Recording
pub mod Judged
pub mod Real
pub mod Checked
pub mod Public
