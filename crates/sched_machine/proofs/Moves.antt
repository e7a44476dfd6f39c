-- One walk through a step, and what follows from it for each instance.
pub mod Cases
pub mod Moves
pub mod Sound
