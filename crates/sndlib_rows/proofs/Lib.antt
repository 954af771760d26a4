pub mod Naming
pub mod RowAt
pub mod Demands
