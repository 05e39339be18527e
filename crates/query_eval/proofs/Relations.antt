-- A relation that a mapping doesn't have has no parent.
use Rattle.std.proofs.Common.{◌≡◌, ℕ, ◌≤◌, length, None, refl}
use Rattle.mapping.specs.Mapping.{Mapping, no_relation, relation_at}
use Rattle.query_eval.proofs.Entries.{or_past}

pub no_parent : (m : Mapping) (r : ℕ) → length m.relations ≤ r → (relation_at m r).parent ≡ None
no_parent m r past = rw (or_past m.relations r no_relation past) refl
