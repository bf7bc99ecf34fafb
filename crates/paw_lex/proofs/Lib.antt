pub mod FirstByte
pub mod LineCuts
pub mod Printed
pub mod Slices
pub mod TokenCuts
