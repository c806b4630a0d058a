-- What the contracts of `letters` cite.
pub mod Replies
