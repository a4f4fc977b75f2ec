-- Beside the proofs of the functions: the laws that these cite (Laws, Ranges), that a refusal leaves nothing behind and an answer
-- is fixed by what the definitions say of it (Outcome), worked examples (Worked); and that a loaded model is sound, each file resting on those above it: what holds of a draft after good
-- lines (LoadedFacts), the ways that one line more keeps it, both readings (LoadedFirst, LoadedSecond), the theorem
-- (LoadedSound), and the listing of document 01 (LoadedBare).
pub mod Laws
pub mod Ranges
pub mod Outcome
pub mod Worked
pub mod LoadedFacts
pub mod LoadedLists
pub mod LoadedActions
pub mod LoadedTerms
pub mod LoadedTests
pub mod LoadedNumbers
pub mod LoadedDrafts
pub mod LoadedLines
pub mod LoadedTables
pub mod LoadedFirst
pub mod LoadedSecond
pub mod LoadedSound
pub mod LoadedBare
