pub mod Certifying
pub mod BestCertificates
