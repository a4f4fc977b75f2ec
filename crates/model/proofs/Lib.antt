-- Beside the proofs of the functions: what is packed is read out again (Pack), the record at a place (Places), what two
-- tests say together (Tests), and one turn of a loop that looks for the first that passes a test (First).
pub mod Pack
pub mod Places
pub mod Tests
pub mod First
