-- When all codes of a configuration are plain: none of them breaks the claim or is refused for size.
pub mod Quiet
