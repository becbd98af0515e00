pub mod Texts
mod Tried
