pub mod Terms
pub mod Rounds
pub mod Messages
pub mod Stream
pub mod Sums
pub mod Wire
pub mod Invariant
pub mod Send
