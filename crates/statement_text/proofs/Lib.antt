mod Decimals
mod Lines
mod Pages
