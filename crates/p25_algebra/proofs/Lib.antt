pub mod SumLaws
pub mod VanishingLaws
pub mod ValueLaws
pub mod ProductLaws
pub mod LocatorLaws
pub mod ProductValueLaws
pub mod QuotientLaws
pub mod ForneyLaws
