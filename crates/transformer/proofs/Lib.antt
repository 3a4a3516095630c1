pub mod Refusing
mod Reducing
mod Greatest
mod Reduced
mod Roots
mod Bisecting
mod Accepted
mod Bounds
mod Distance
mod Near
mod Surds
mod Signs
mod Fits
