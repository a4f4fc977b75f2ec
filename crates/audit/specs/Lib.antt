-- What the contracts of this crate cite, beside document 01: 'Sound means', the test for what a model lists (Models) and for a
-- configuration (Configuration), and each said as facts (Sound, Whole). To be read in this order. Bare is the model that
-- document 01 lists whole.
pub mod Tops
pub mod Programs
pub mod Listed
pub mod Claims
pub mod Models
pub mod Sound
pub mod Configuration
pub mod Whole
pub mod Bare
