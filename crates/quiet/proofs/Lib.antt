-- Beside the proofs of the functions: one turn of the loop over terms, and that it bounds the depth of each (Deepest), from step to
-- step (Bounds). The theorem that all codes of a quiet configuration are plain: what entering operands can add (Room), and how deep
-- and how new a result can be (Yields), on trees alone; when the operands of all threads are shallow enough, and the two tests of
-- it (Fitting); no accept of the claim's program (Nobody); no refusal for size (Sizes); so all are plain (Plain).
pub mod Deepest
pub mod Bounds
pub mod Room
pub mod Yields
pub mod Fitting
pub mod Nobody
pub mod Sizes
pub mod Plain
