-- A store whose idle gate was closed, or whose commit failed, knows its last commit as before.
use Rattle.std.proofs.Common.{◌≡◌, ℕ, ◌+◌, ◌≤◌, ◌⊎◌, inl, inr, List, Option, None, Some, sym, ◌∙◌, subst, arith}
use Rattle.commit_store.specs.declared.known.KnownSegment.{KnownSegment}
use Rattle.commit_store.specs.Known.{StoreState, IsStore, IsLast, AreOfSegments}
use Rattle.commit_store.specs.Preparing.{IsLeft, with_closed}
use Rattle.commit_store.specs.Saying.{StoreCommit}

pub last_closed : (store : StoreState) (found : Option StoreCommit) → IsLast store found → IsLast (with_closed store) found
last_closed store None last = last
last_closed store (Some f) last = record { side = last.side; named = last.named; known = last.known; tried = last.tried }

pub store_closed : (store : StoreState) → IsStore store → IsStore (with_closed store)
store_closed store is = record { limit = is.limit; places = is.places; names = is.names; segments = is.segments; ids = is.ids; tried = is.tried }

no_less : (generation old new : ℕ) → generation ≤ old → (new ≡ old) ⊎ (new ≡ old + 1) → generation ≤ new
no_less generation old new fewer (inl same) = omega (arith, fewer, same)
no_less generation old new fewer (inr more) = omega (arith, fewer, more)

pub last_left : (old new : StoreState) (found : Option StoreCommit) → IsLeft old new → IsLast old found → IsLast new found
last_left old new None left last = left.side ∙ last
last_left old new (Some f) left last = record {
  side = left.side ∙ last.side;
  named = left.named ∙ last.named;
  known = subst (λ (it : List KnownSegment). AreOfSegments f.says.old it f.says.segments) (sym left.known) last.known;
  tried = no_less f.generation old.tried new.tried last.tried left.tried;
}
