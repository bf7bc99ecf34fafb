pub mod FirstFit
