-- Beside the proofs of the functions: one turn of each loop and what parts written anew are (Loops), what refuses a term
-- (Sizes), that a refused step leaves the table as it came (Back), that effects look into no label (Alike), that the two
-- parts in which a step is made are its configuration (Parts: made_parts), and that an answer is fixed by what the
-- definitions say of it (Only).
pub mod Loops
pub mod Sizes
pub mod Back
pub mod Alike
pub mod Parts
pub mod Only
