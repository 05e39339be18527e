use Rattle.std.proofs.Common.{ℕ, ◌<◌, ◌++◌, ◌∷◌, [], List, Option, ap, append_assoc, refl, subst, sym, ◌∙◌}
use Rattle.view_objects.specs.declared.hit.Hit.{Hit}
use Rattle.view_objects.specs.Hits.{hits_between}
use Rattle.nested_sort.specs.Reached.{AreKept, IsAskedAt, key_at, key_by}
use Rattle.nested_sort.proofs.Ranges.{hits_push}
use Rattle.nested_sort.proofs.Reaches.{all_between, asked_at, done_all, key_there, low_at}
use Rattle.nested_sort.proofs.reached.add_candidates.Goals as goal

pub first_key-requires-clause-asked : goal.first_key-requires-clause-asked
first_key-requires-clause-asked c =
    subst (λ (p : ℕ). IsAskedAt c.segment-segment.result.now p c.args.clause.now) (sym c.in-Some.ensures.within.0)
    (asked_at c.args.entries.now c.args.place c.args.found.now c.index-entries-place.result c.segment-segment.result.now c.requires.long c.index-entries-place.is c.segment-segment.ensures c.args.clause.now c.requires.asked)

pub first_key-requires-clause-within : goal.first_key-requires-clause-within
first_key-requires-clause-within c =
    low_at c.args.entries.now c.args.place c.args.found.now c.index-entries-place.result c.segment-segment.result.now c.requires.long c.index-entries-place.is c.segment-segment.ensures c.in-Some.hit.doc
    (subst (λ (n : ℕ). c.in-Some.hit.doc < n) c.len-end.ensures c.in-Some.ensures.within.1)

pub found-preserved : goal.found-preserved
found-preserved c =
    let was = c.found.invariant in (
      was.0 ++ c.in-Some.hit ∷ [],
      hits_push was.0 (was.0 ++ c.in-Some.hit ∷ []) (hits_between c.args.place 0 c.len-end.result c.args.found.now) c.in-Some.hit
          (hits_between c.args.place c.found.left.from c.len-end.result c.found.left.scores) (hits_between c.args.place c.next_hit.new.left.from c.len-end.result c.next_hit.new.left.scores) refl
          (c.in-Some.ensures.hit ∙ ap (λ (s : List (Option ℕ)). c.in-Some.hit ∷ hits_between c.args.place c.next_hit.new.left.from c.len-end.result s) (sym c.in-Some.ensures.scores))
          was.1,
      c.in-Some.ensures.scores ∙ was.2,
      was.3,
      c.in-Some.ensures.later.1,
      λ direction after most all are.
          subst (λ (hs : List Hit). AreKept (key_by c.args.entries.now c.args.clause.now) direction after most hs c.offer.new.kept.items c.offer.new.keys) (append_assoc all was.0 (c.in-Some.hit ∷ []))
          (c.in_ok-offer.ensures (key_by c.args.entries.now c.args.clause.now) direction after most (all ++ was.0)
          (c.in_ok-key.ensures ∙ ap (λ (p : ℕ). key_at c.segment-segment.result.now p c.args.clause.now c.in-Some.hit) c.in-Some.ensures.within.0
          ∙ key_there c.args.entries.now c.args.place c.args.found.now c.index-entries-place.result c.segment-segment.result.now c.requires.long c.index-entries-place.is c.segment-segment.ensures c.args.clause.now c.in-Some.hit c.in-Some.ensures.within.0)
          (was.5 direction after most all are)),
    )

pub returns : goal.returns
returns c = λ direction after most all are.
    let was = c.found.invariant in
    subst (λ (hs : List Hit). AreKept (key_by c.args.entries.now c.args.clause.now) direction after most (all ++ hs) c.found.kept.items c.found.keys)
    (done_all was.0 (hits_between c.args.place 0 c.len-end.result c.args.found.now) (hits_between c.args.place c.found.left.from c.len-end.result c.found.left.scores) c.in_default.ensures.none was.1
    ∙ all_between c.args.place c.len-end.result c.args.found.now was.3)
    (was.5 direction after most all are)
