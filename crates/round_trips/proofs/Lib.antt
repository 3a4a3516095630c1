mod InFull
mod Parts
pub mod PostedBack
pub mod WrittenBack
mod WrittenFiles
