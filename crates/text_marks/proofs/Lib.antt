pub mod Shown
pub mod TwoFronts
pub mod Texts
