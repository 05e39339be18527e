-- Live trees stand by ascending numbers below the next one, with ids of their own, before and after each request.
use Rattle.std.proofs.Common.{◌≡◌, ◌≢◌, ◌+◌, ◌<◌, ℕ, Bool, true, false, cond, List, [], ◌∷◌, ◌++◌, refl, sym, subst, ◌∙◌, arith}
use Rattle.std.proofs.lemmas.Slice.Eq.{bytes_eq-Decides}
use Rattle.reply_text.specs.declared.reply.Reply.{Reply}
use Rattle.request_form.specs.Asked.{Asked}
use Rattle.tree_objects.specs.Tree.{Tree, ComesFirst, IsLiveList, has_id, without}
use Rattle.machine.specs.May.{MayAnswer}
use Rattle.machine.specs.State.{AreBelow, Content, IsNumbered, State}
use Rattle.machine.specs.Write.{with_put}
use Rattle.machine.specs.declared.limits.Limits.{Limits}
use Rattle.machine.proofs.Steps.{Stays, may_so}

other_id : (first tree : Tree) → has_id tree.id first ≡ false → first.id ≢ tree.id
other_id first tree is e = no (sym is ∙ (bytes_eq-Decides first.id tree.id).1 e)
  where
    no : false ≡ true → ⊥
    no e = cc

-- ---- a tree that is taken out

first_without : (id : List ℕ) (first : Tree) (trees : List Tree) → ComesFirst first trees → ComesFirst first (without id trees)
first_without id first [] comes = tt
first_without id first (tree ∷ trees) comes = step (has_id id tree) (first_without id first trees comes.1)
  where
    step : (b : Bool) → ComesFirst first (without id trees) → ComesFirst first (cond b (without id trees) (tree ∷ without id trees))
    step true more = more
    step false more = (comes.0, more)

live_without : (id : List ℕ) (trees : List Tree) → IsLiveList trees → IsLiveList (without id trees)
live_without id [] live = tt
live_without id (tree ∷ trees) live = step (has_id id tree) (live_without id trees live.1)
  where
    step : (b : Bool) → IsLiveList (without id trees) → IsLiveList (cond b (without id trees) (tree ∷ without id trees))
    step true more = more
    step false more = (first_without id tree trees live.0, more)

below_without : (id : List ℕ) (number : ℕ) (trees : List Tree) → AreBelow number trees → AreBelow (number + 1) (without id trees)
below_without id number [] below = tt
below_without id number (tree ∷ trees) below = step (has_id id tree) (below_without id number trees below.1)
  where
    step : (b : Bool) → AreBelow (number + 1) (without id trees) → AreBelow (number + 1) (cond b (without id trees) (tree ∷ without id trees))
    step true more = more
    step false more = (omega (arith, below.0), more)

-- ---- a tree that is put

first_put : (first tree : Tree) (trees : List Tree) → ComesFirst first trees → first.number < tree.number → first.id ≢ tree.id → ComesFirst first (with_put tree trees)
first_put first tree [] comes below apart = ((below, apart), tt)
first_put first tree (later ∷ trees) comes below apart = step (has_id tree.id later) (first_put first tree trees comes.1 below apart)
  where
    step : (b : Bool) → ComesFirst first (with_put tree trees) → ComesFirst first (cond b (without tree.id trees) (later ∷ without tree.id trees) ++ tree ∷ [])
    step true more = more
    step false more = (comes.0, more)

live_put : (tree : Tree) (trees : List Tree) → IsLiveList trees → AreBelow tree.number trees → IsLiveList (with_put tree trees)
live_put tree [] live below = (tt, tt)
live_put tree (first ∷ trees) live below = step (has_id tree.id first) refl (live_put tree trees live.1 below.1)
  where
    step : (b : Bool) → has_id tree.id first ≡ b → IsLiveList (with_put tree trees) → IsLiveList (cond b (without tree.id trees) (first ∷ without tree.id trees) ++ tree ∷ [])
    step true is more = more
    step false is more = (first_put first tree trees live.0 below.0 (other_id first tree is), more)

below_put : (tree : Tree) (trees : List Tree) → AreBelow tree.number trees → AreBelow (tree.number + 1) (with_put tree trees)
below_put tree [] below = (omega arith, tt)
below_put tree (first ∷ trees) below = step (has_id tree.id first) (below_put tree trees below.1)
  where
    step : (b : Bool) → AreBelow (tree.number + 1) (with_put tree trees) → AreBelow (tree.number + 1) (cond b (without tree.id trees) (first ∷ without tree.id trees) ++ tree ∷ [])
    step true more = more
    step false more = (omega (arith, below.0), more)

-- ---- each step

abbrev AreNumbered : State → Type 0
AreNumbered state = IsNumbered state.content

pub put_numbered : (tree : Tree) (content : Content) → tree.number ≡ content.next → IsNumbered content → IsLiveList (with_put tree content.live) × AreBelow (content.next + 1) (with_put tree content.live)
put_numbered tree content next is =
    let below : AreBelow tree.number content.live = subst (λ n. AreBelow n content.live) (sym next) is.below in
    (live_put tree content.live is.live below, subst (λ n. AreBelow (n + 1) (with_put tree content.live)) next (below_put tree content.live below))

pub taken_numbered : (id : List ℕ) (content : Content) → IsNumbered content → IsLiveList (without id content.live) × AreBelow (content.next + 1) (without id content.live)
taken_numbered id content is = (live_without id content.live is.live, below_without id content.next content.live is.below)

numbered_stays : (asked : Asked) → Stays AreNumbered asked
numbered_stays asked = record {
  laid = record { sealed = λ state is. is; relaid = λ layout state same is. is; stored = λ kept state is. is };
  mapped = λ m state is. record { live = is.live; below = is.below };
  put = λ m tree state next is. let after = put_numbered tree state.content next is in record { live = after.0; below = after.1 };
  taken = λ m id state is. let after = taken_numbered id state.content is in record { live = after.0; below = after.1 };
  opened = λ asks state is. is;
  closed = λ id asks state is. is;
}

pub may_numbered : (limits : Limits) (before : State) (asked : Asked) (reply : Reply) (after : State) → IsNumbered before.content → MayAnswer limits before asked reply after → IsNumbered after.content
may_numbered limits before asked reply after is may = may_so AreNumbered limits before asked reply after (numbered_stays asked) is may
