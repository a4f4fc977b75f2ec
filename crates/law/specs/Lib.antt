-- The rules of document 01 on terms written out whole, to be read beside it in this order: Out, Size, Act, Rules. Meant
-- says what the machine's answers mean in such terms: with it the theorem is one equation, `step_is_rules`. Like is the
-- same as a relation that steps keep. Turned lists the reasons of every refusal; Runs and Machines are runs and searches.
pub mod Out
pub mod Size
pub mod Act
pub mod Rules
pub mod Meant
pub mod Like
pub mod Turned
pub mod Runs
pub mod Machines
