-- A query for which a tree is accepted is never satisfied.
pub use Rattle.sy_linear.proofs.Sound.{sound}
