-- Place to Search: what the contracts of this crate cite, beside document 01, section 'The search', in the code's own order. Shown: what the walk of crate `walk` gives, as answers of this crate.
pub mod Place
pub mod Answer
pub mod Enter
pub mod Turn
pub mod Search
pub mod Shown
