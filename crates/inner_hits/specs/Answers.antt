-- What was evaluated for a definition of inner hits, as mathematics.
pub mod Code
use Rattle.std.specs.Prelude.{ℕ, List, Option}
use Rattle.inner_hits.specs.declared.joined.Kin.{Kin}

-- the scores that its query gives documents, those that each filter of its sort gives, and where it joins trees the hits by
-- their keys
pub record Answer : Type 0 where
  pub scores : List (List (Option ℕ))
  pub filters : List (List (List (Option ℕ)))
  pub kin : List Kin
