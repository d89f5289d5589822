pub mod Rules
pub mod Firsts
pub mod Found
pub mod KnownParts
pub mod Distinct
pub mod Inside
