mod Examples
mod Names
mod Splits
mod NameTexts
mod Fits
mod TextLines
mod Shapely
mod Rows
pub mod Validity
