-- What the promise cites (Outcomes, Survey), and what it is made of and private contracts cite (Nodes, Reserve).
pub mod Outcomes
pub mod Nodes
pub mod Reserve
pub mod Survey
