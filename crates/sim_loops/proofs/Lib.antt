pub mod SelfDependence
pub mod InstancePath
pub mod PathText
pub mod FirstLoop
