use Rattle.std.proofs.Common.{◌≡◌, ◌+◌, ◌≤◌, ◌-◌, [], ◌∷◌, take, Some, is_some, refl, sym, ap, subst, ◌∙◌, arith}
use Rattle.block_bits.specs.Flags.{is_marked}
use Rattle.block_bits.specs.Places.{next_place}
use Rattle.block_join.specs.Kept.{shown, kept_score, marks}
use Rattle.block_join.specs.Scores.{Standing, between}
use Rattle.block_join.proofs.Standing.{Passed, reads, place_known, stands_behind, stands_at, passes_all, passes_some, next_shown, walk_documents, walk_behind, view_long, view_from}
use Rattle.block_join.proofs.cursor.Cursor.next_before.Goals.{in_default-via-in-Some+else-doc-end, in_default-via-in_default}
use Rattle.block_join.proofs.cursor.Cursor.next_before.Goals as goal

pub read-score-requires : goal.read-score-requires
read-score-requires c =
    let read = reads c.self.inside.walk.documents c.self.inside.form.now c.self.inside.from c.in-Some.doc (sym c.self.invariant.next ∙ c.in-Some.is) in
    (c.self.inside.walk.documents, place_known c.self.inside.form.now c.self.inside.from c.in-Some.doc c.self.inside.at c.self.inside.walk.documents c.self.invariant.placed c.self.invariant.scores_are read)

pub invariant_of-self : goal.invariant_of-self
invariant_of-self c =
    let read = reads c.self.inside.walk.documents c.self.inside.form.now c.self.inside.from c.in-Some.doc (sym c.self.invariant.next ∙ c.in-Some.is) in
    let behind = rw c.in-Some.is at c.self.invariant.behind in
    let from : c.from-self-inside.result ≡ c.in-Some.doc + 1 = c.from-self-inside.ensures.from ∙ behind in
    let next : c.next-self-inside.result ≡ next_place is_marked (c.in-Some.doc + 1) c.self.inside.walk.documents =
    subst (λ n. c.next-self-inside.result ≡ next_place is_marked n c.self.inside.walk.documents) behind c.next-self-inside.ensures.value in
    rw from
    (stands_behind c.self.inside.set.now c.self.inside.walk c.next-self-inside.new.self c.next-self-inside.result c.self.inside.form.now c.self.inside.from c.in-Some.doc c.read-score.result.1
    read c.self.invariant.own c.self.invariant.scores_are
    (walk_documents c.self.inside.walk c.next-self-inside.new.self c.next-self-inside.result c.next-self-inside.ensures.found c.next-self-inside.ensures.ended)
    next
    (walk_behind c.self.inside.walk c.next-self-inside.new.self c.next-self-inside.result c.next-self-inside.ensures.found)
    (c.read-score.ensures.placed (marks (take c.self.inside.from c.self.inside.walk.documents)) c.self.invariant.placed))

pub invariant_of-self-in_default : goal.invariant_of-self-in_default
invariant_of-self-in_default c =
    let ordered : c.self.inside.from ≤ c.args.end = omega (arith, c.requires.ordered, view_from c.self.inside.walk.documents c.self.inside.form.now c.self.inside.from c.args.self.now c.self.view_is) in
    let passed : Passed c.self.inside.walk.documents c.self.inside.form.now c.self.inside.from c.args.end = elim c.in_default.branch [
      | in_default-via-in-Some+else-doc-end w ↦ passes_some c.self.inside.walk.documents c.self.inside.form.now c.self.inside.from c.args.end w.in-Some.doc ordered (sym c.self.invariant.next ∙ w.in-Some.is) (omega (arith, w.if-doc-end.false))
      | in_default-via-in_default w ↦ passes_all c.self.inside.walk.documents c.self.inside.form.now c.self.inside.from c.args.end ordered (sym c.self.invariant.next ∙ w.in_default.is)
    ] in
    stands_at c.self.inside.set.now c.self.inside.walk c.self.inside.ahead c.self.inside.form.now c.self.inside.from c.args.end c.self.inside.at c.self.invariant
    (omega (arith, c.requires.within, view_long c.self.inside.walk.documents c.self.inside.form.now c.self.inside.from c.args.self.now c.self.view_is)) passed

pub returns-in-Some-clause-score : goal.returns-in-Some-clause-score
returns-in-Some-clause-score c =
    let read = reads c.self.inside.walk.documents c.self.inside.form.now c.self.inside.from c.in-Some.doc (sym c.self.invariant.next ∙ c.in-Some.is) in
    let behind = rw c.in-Some.is at c.self.invariant.behind in
    let from : c.from-self-inside.result ≡ c.in-Some.doc + 1 = c.from-self-inside.ensures.from ∙ behind in
    let same = walk_documents c.self.inside.walk c.next-self-inside.new.self c.next-self-inside.result c.next-self-inside.ensures.found c.next-self-inside.ensures.ended in
    let known = place_known c.self.inside.form.now c.self.inside.from c.in-Some.doc c.self.inside.at c.self.inside.walk.documents c.self.invariant.placed c.self.invariant.scores_are read in
    let score : c.read-score.result.0 ≡ kept_score c.self.inside.form.now (marks (take c.self.inside.from c.self.inside.walk.documents)) = c.read-score.ensures.score c.self.inside.walk.documents known ∙ ap (kept_score c.self.inside.form.now) read.here in
    subst (λ (v : Standing). between v.scores v.from c.args.end ≡ c.read-score.result.0 ∷ between (shown (kept_score c.self.inside.form.now) 0 c.next-self-inside.new.self.documents) c.from-self-inside.result c.args.end) c.self.view_is
    (rw (from, same, score) (read.scores_are c.args.end (omega (arith, c.if-doc-end.true))))

pub returns-in-Some-clause-capped : goal.returns-in-Some-clause-capped
returns-in-Some-clause-capped c =
    let read = reads c.self.inside.walk.documents c.self.inside.form.now c.self.inside.from c.in-Some.doc (sym c.self.invariant.next ∙ c.in-Some.is) in
    let known = place_known c.self.inside.form.now c.self.inside.from c.in-Some.doc c.self.inside.at c.self.inside.walk.documents c.self.invariant.placed c.self.invariant.scores_are read in
    let score : c.read-score.result.0 ≡ kept_score c.self.inside.form.now (marks (take c.self.inside.from c.self.inside.walk.documents)) = c.read-score.ensures.score c.self.inside.walk.documents known ∙ ap (kept_score c.self.inside.form.now) read.here in
    rw score (c.self.invariant.scores_are.capped _ read.own)

pub returns-in-Some-clause-later : goal.returns-in-Some-clause-later
returns-in-Some-clause-later c =
    let read = reads c.self.inside.walk.documents c.self.inside.form.now c.self.inside.from c.in-Some.doc (sym c.self.invariant.next ∙ c.in-Some.is) in
    let behind = rw c.in-Some.is at c.self.invariant.behind in
    let from : c.from-self-inside.result ≡ c.in-Some.doc + 1 = c.from-self-inside.ensures.from ∙ behind in
    let same = view_from c.self.inside.walk.documents c.self.inside.form.now c.self.inside.from c.args.self.now c.self.view_is in
    (omega (arith, from, same, read.later), omega (arith, from, c.if-doc-end.true))

pub returns-in-Some-clause-document : goal.returns-in-Some-clause-document
returns-in-Some-clause-document c =
    let behind = rw c.in-Some.is at c.self.invariant.behind in
    let from : c.from-self-inside.result ≡ c.in-Some.doc + 1 = c.from-self-inside.ensures.from ∙ behind in
    let doc : c.in-Some.doc ≡ c.from-self-inside.result - 1 = omega (arith, from) in
    subst (λ (v : Standing). next_place is_some v.from v.scores ≡ Some (c.from-self-inside.result - 1)) c.self.view_is
    (next_shown (kept_score c.self.inside.form.now) c.self.inside.walk.documents c.self.inside.from ∙ sym c.self.invariant.next ∙ c.in-Some.is ∙ ap Some doc)

pub returns-in_default-clause-none : goal.returns-in_default-clause-none
returns-in_default-clause-none c =
    let ordered : c.self.inside.from ≤ c.args.end = omega (arith, c.requires.ordered, view_from c.self.inside.walk.documents c.self.inside.form.now c.self.inside.from c.args.self.now c.self.view_is) in
    let passed : Passed c.self.inside.walk.documents c.self.inside.form.now c.self.inside.from c.args.end = elim c.in_default.branch [
      | in_default-via-in-Some+else-doc-end w ↦ passes_some c.self.inside.walk.documents c.self.inside.form.now c.self.inside.from c.args.end w.in-Some.doc ordered (sym c.self.invariant.next ∙ w.in-Some.is) (omega (arith, w.if-doc-end.false))
      | in_default-via-in_default w ↦ passes_all c.self.inside.walk.documents c.self.inside.form.now c.self.inside.from c.args.end ordered (sym c.self.invariant.next ∙ w.in_default.is)
    ] in
    (subst (λ (v : Standing). between v.scores v.from c.args.end ≡ []) c.self.view_is passed.scores_are, refl)
