-- The laws that this crate's proofs share. `Views` is cited by callers too.
pub mod Views
