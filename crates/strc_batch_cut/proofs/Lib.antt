pub mod Picks
pub mod Weighed
pub mod Plans
pub mod Even
pub mod Work
