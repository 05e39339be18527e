use Rattle.std.proofs.Common.{◌≡◌, ◌+◌, ◌≤◌, List, Bool, length, take, sym, ap, subst, ◌∙◌, arith}
use Rattle.block_join.specs.Kept.{marks, IsPlaced}
use Rattle.block_join.proofs.Standing.{Passed, leaps_to, passes_all, passes_some, reads, stands_at, view_from, view_long}
use Rattle.block_join.proofs.cursor.Cursor.skip.Goals.{in_default-via-in-Some+else-doc-end, in_default-via-in_default}
use Rattle.block_join.proofs.cursor.Cursor.skip.Goals as goal

pub place_at-self-inside-requires-clause-within : goal.place_at-self-inside-requires-clause-within
place_at-self-inside-requires-clause-within c =
    omega (arith, c.requires.within, ap (λ (flags : List Bool). length flags) c.self.invariant.own, view_long c.self.inside.walk.documents c.self.inside.form.now c.self.inside.from c.args.self.now c.self.view_is)

pub place_at-self-inside-requires-clause-placed : goal.place_at-self-inside-requires-clause-placed
place_at-self-inside-requires-clause-placed c =
    let next = sym c.self.invariant.next ∙ c.in-Some.is in
    let read = reads c.self.inside.walk.documents c.self.inside.form.now c.self.inside.from c.in-Some.doc next in
    let passed : Passed c.self.inside.walk.documents c.self.inside.form.now c.self.inside.from c.in-Some.doc =
    passes_some c.self.inside.walk.documents c.self.inside.form.now c.self.inside.from c.in-Some.doc c.in-Some.doc read.later next (omega arith) in
    let same : marks (take c.self.inside.from c.self.inside.walk.documents) ≡ marks (take c.in-Some.doc c.self.inside.set.now) =
    sym passed.marked ∙ ap (λ (flags : List Bool). marks (take c.in-Some.doc flags)) c.self.invariant.own in
    subst (IsPlaced c.self.inside.form.now c.self.inside.at) same c.self.invariant.placed

pub skip_to-requires : goal.skip_to-requires
skip_to-requires c = omega (arith, c.requires.within, view_long c.self.inside.walk.documents c.self.inside.form.now c.self.inside.from c.args.self.now c.self.view_is)

pub invariant_of-self : goal.invariant_of-self
invariant_of-self c =
    let behind : c.self.inside.walk.from ≡ c.in-Some.doc + 1 = rw c.in-Some.is at c.self.invariant.behind in
    let within : c.args.end ≤ length c.self.inside.walk.documents = omega (arith, c.requires.within, view_long c.self.inside.walk.documents c.self.inside.form.now c.self.inside.from c.args.self.now c.self.view_is) in
    leaps_to c.self.inside.set.now c.self.inside.walk c.skip_to.new.self c.next-self-inside.new.self c.next-self-inside.result c.self.inside.form.now c.args.end c.place_at-self-inside.result c.self.invariant.own c.self.invariant.scores_are within
    (omega (arith, behind, c.if-doc-end.true)) c.skip_to.ensures c.next-self-inside.ensures.value c.next-self-inside.ensures.found c.next-self-inside.ensures.ended c.place_at-self-inside.ensures

pub invariant_of-self-in_default : goal.invariant_of-self-in_default
invariant_of-self-in_default c =
    let ordered : c.self.inside.from ≤ c.args.end = omega (arith, c.requires.ordered, view_from c.self.inside.walk.documents c.self.inside.form.now c.self.inside.from c.args.self.now c.self.view_is) in
    let passed : Passed c.self.inside.walk.documents c.self.inside.form.now c.self.inside.from c.args.end = elim c.in_default.branch [
      | in_default-via-in-Some+else-doc-end w ↦ passes_some c.self.inside.walk.documents c.self.inside.form.now c.self.inside.from c.args.end w.in-Some.doc ordered (sym c.self.invariant.next ∙ w.in-Some.is) (omega (arith, w.if-doc-end.false))
      | in_default-via-in_default w ↦ passes_all c.self.inside.walk.documents c.self.inside.form.now c.self.inside.from c.args.end ordered (sym c.self.invariant.next ∙ w.in_default.is)
    ] in
    stands_at c.self.inside.set.now c.self.inside.walk c.self.inside.ahead c.self.inside.form.now c.self.inside.from c.args.end c.self.inside.at c.self.invariant
    (omega (arith, c.requires.within, view_long c.self.inside.walk.documents c.self.inside.form.now c.self.inside.from c.args.self.now c.self.view_is)) passed
