pub mod Open
pub mod Computed
pub mod PlanOfText
pub mod SameData
pub mod Numbers
