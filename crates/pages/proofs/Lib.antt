-- Beside the proofs of the functions: one line more of a text (Texts); what a page shows (Printed) and that it is long
-- enough (Fits); that a page with another behind it has spent of the budget (Spends); the text of all pages (Pages),
-- which is the listing of the search (Listed); the codes that a run reads (Codes), and that its page is long enough
-- (RunFits); that an answer is fixed by what the definitions say of it (Only); worked examples (Facts).
pub mod Texts
pub mod Printed
pub mod Fits
pub mod Spends
pub mod Pages
pub mod Listed
pub mod Codes
pub mod RunFits
pub mod Only
pub mod Facts
