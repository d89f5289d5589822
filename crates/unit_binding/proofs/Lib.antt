pub mod SameKinds
mod OneKind
mod AllKinds
