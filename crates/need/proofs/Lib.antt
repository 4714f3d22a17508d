-- What the proofs of `need` cite, what is promised of needs, and closed cases.
pub mod Enough
pub mod Small
mod Cases
