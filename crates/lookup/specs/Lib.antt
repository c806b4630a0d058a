-- What the promises cite (Answers), and what private contracts cite (Places).
pub mod Answers
pub mod Places
