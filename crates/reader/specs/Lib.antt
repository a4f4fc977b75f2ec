-- What the contracts of this crate cite, beside document 01, section 'The model file'. To be read in this order: the numbers of
-- a line, what the lines so far have told, one file for each record letter, the two readings, the model. BareFile is the
-- listing that document 01 shows.
pub mod Refused
pub mod Numbers
pub mod Drafts
pub mod VLine
pub mod ELine
pub mod ALine
pub mod MLine
pub mod LLine
pub mod TLine
pub mod CLine
pub mod FirstReading
pub mod SecondReading
pub mod Load
pub mod BareFile
