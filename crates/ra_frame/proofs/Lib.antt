mod Checks
mod Texts
