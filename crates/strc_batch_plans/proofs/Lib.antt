pub mod Going
pub mod Rings
pub mod Wide
pub mod Plans
pub mod Row
