pub mod Voltages
