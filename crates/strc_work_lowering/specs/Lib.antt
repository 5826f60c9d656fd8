pub mod Layouts
pub mod Emission
pub mod Written
pub mod Parts
pub use Rattle.strc_work_code.specs.Lowering
