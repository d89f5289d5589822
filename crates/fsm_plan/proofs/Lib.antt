mod Bridge
mod Orders
mod Agree
mod CodeAgree
pub mod LeastStarts
mod Small
mod Whole
mod StageLists
mod Short
mod Right
mod Commute
mod Sort
mod OrdersAgree
mod PlansAgree
mod Lists
mod Parts
