-- The models that the worked facts are about; what the facts are said with: answers of the public functions, through the
-- definitions that their contracts cite; and the facts, one record (Twelve).
pub mod Models
pub mod Said
pub mod Twelve
