-- What the promise cites (Outcomes), and what private contracts cite (Expected).
pub mod Outcomes
pub mod Expected
