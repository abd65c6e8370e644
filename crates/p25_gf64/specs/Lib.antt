pub mod Field
pub mod Product
pub mod Symbol
pub mod Gf64
-- laws of impls, with no definition to trust
pub mod ProductLaws
