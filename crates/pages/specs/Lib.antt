-- What the two programs print, beside document 01, 'One listing whole'. To be read in this order: the lines of a listing
-- (ListText), its pages (ListPage) and all of them (Listing); the lines of a run (RunText) and its page (RunPage).
pub mod ListText
pub mod ListPage
pub mod Listing
pub mod RunText
pub mod RunPage
