-- Demand 3, promise by promise: order and upright, bends,
pub mod Upright
pub mod Bends
-- optimal,
pub mod Sideways
pub mod BestThen
-- lasting.
pub mod Settled
pub mod ReadyVias
pub mod Steady
pub mod Lasting
-- The theorem, case 1 as an instance of it, and the list entry by entry.
pub mod Theorem
pub mod Instance
pub mod Entries
