-- Beside the proofs of the functions: the table of structs, record for record (Stood); judging over it is judging over the
-- flat records, and so the claim's definition (Same).
pub mod Stood
pub mod Same
