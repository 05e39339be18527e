use Rattle.std.proofs.Common.{◌≡◌, ℕ, ◌+◌, List, Option, Some, None, is_some, get_or, length, sym, ap, ◌∙◌, arith}
use Rattle.block_bits.specs.Places.{next_place}
use Rattle.block_join.specs.Kept.{next_by}
use Rattle.block_join.specs.Merge.{put_together}
use Rattle.block_join.specs.Scores.{Standing, padded}
use Rattle.block_join.proofs.Merging.{merging_more, merging_ends, never_behind, not_behind, silent_to}
use Rattle.block_join.proofs.merge.merged_each.Goals as goal

pub take_at-a-requires-clause-ordered : goal.take_at-a-requires-clause-ordered
take_at-a-requires-clause-ordered c = c.in-Some.ensures.within.0

pub take_at-b-requires-clause-ordered : goal.take_at-b-requires-clause-ordered
take_at-b-requires-clause-ordered c = omega (arith, c.hits.invariant.3, c.in-Some.ensures.within.0)

pub put-requires-clause-later : goal.put-requires-clause-later
put-requires-clause-later c = omega (arith, c.hits.invariant.4, c.in-Some.ensures.within.0)

pub hits-smaller : goal.hits-smaller
hits-smaller c =
    let from : c.take_at-a.new.cursor.from ≡ c.in-Some.doc + 1 = ap (λ (it : Standing). it.from) c.take_at-a.ensures.place in
    let first : length c.hits.first.scores ≡ length c.args.one.now = ap length c.hits.invariant.0 in
    omega (arith, from, first, c.len-len.ensures, c.in-Some.ensures.within.0, c.in-Some.ensures.within.1)

pub hits-preserved : goal.hits-preserved
hits-preserved c =
    let from : c.take_at-a.new.cursor.from ≡ c.in-Some.doc + 1 = ap (λ (it : Standing). it.from) c.take_at-a.ensures.place in
    let other : c.take_at-b.new.cursor.from ≡ c.in-Some.doc + 1 = ap (λ (it : Standing). it.from) c.take_at-b.ensures.place in
    let first : length c.hits.first.scores ≡ length c.args.one.now = ap length c.hits.invariant.0 in
    let next : next_by c.args.rule (next_place is_some c.hits.first.from c.args.one.now) (next_place is_some c.hits.first.from c.args.other.now) ≡ Some c.in-Some.doc =
    ap (λ (scores : List (Option ℕ)). next_by c.args.rule (next_place is_some c.hits.first.from scores) (next_place is_some c.hits.first.from c.args.other.now)) (sym c.hits.invariant.0)
    ∙ ap (λ (scores : List (Option ℕ)). next_by c.args.rule (next_place is_some c.hits.first.from c.hits.first.scores) (next_place is_some c.hits.first.from scores)) (sym c.hits.invariant.1)
    ∙ ap (λ n. next_by c.args.rule (next_place is_some c.hits.first.from c.hits.first.scores) (next_place is_some n c.hits.second.scores)) (sym c.hits.invariant.3)
    ∙ sym c.next_of.ensures.value ∙ c.in-Some.is in
    let score : c.apply.result ≡ put_together c.args.rule (get_or c.args.one.now c.in-Some.doc None) (get_or c.args.other.now c.in-Some.doc None) =
    c.apply.ensures.value
    ∙ ap (λ (x : Option ℕ). put_together c.args.rule x c.take_at-b.result) (c.take_at-a.ensures.value ∙ ap (λ (scores : List (Option ℕ)). get_or scores c.in-Some.doc None) c.hits.invariant.0)
    ∙ ap (λ (x : Option ℕ). put_together c.args.rule (get_or c.args.one.now c.in-Some.doc None) x) (c.take_at-b.ensures.value ∙ ap (λ (scores : List (Option ℕ)). get_or scores c.in-Some.doc None) c.hits.invariant.1) in (
      ap (λ (it : Standing). it.scores) c.take_at-a.ensures.place ∙ c.hits.invariant.0,
      ap (λ (it : Standing). it.scores) c.take_at-b.ensures.place ∙ c.hits.invariant.1,
      c.put.ensures.len ∙ c.hits.invariant.2,
      other ∙ sym from,
      omega (arith, from, c.in_ok-put.ensures.up_to),
      rw from
          (merging_more (put_together c.args.rule) c.args.one.now c.args.other.now c.hits.hits.done c.put.new.self.done c.hits.first.from c.in-Some.doc c.apply.result
          c.hits.invariant.5 c.requires c.in-Some.ensures.within.0 (omega (arith, first, c.in-Some.ensures.within.1))
          (silent_to c.args.rule c.hits.first.from c.in-Some.doc c.args.one.now c.args.other.now (not_behind _ c.in-Some.doc next)) score c.in_ok-put.ensures.done c.in_ok-put.ensures.up_to),
    )

pub returns-clause-scores : goal.returns-clause-scores
returns-clause-scores c =
    let none : next_by c.args.rule (next_place is_some c.hits.first.from c.args.one.now) (next_place is_some c.hits.first.from c.args.other.now) ≡ None =
    ap (λ (scores : List (Option ℕ)). next_by c.args.rule (next_place is_some c.hits.first.from scores) (next_place is_some c.hits.first.from c.args.other.now)) (sym c.hits.invariant.0)
    ∙ ap (λ (scores : List (Option ℕ)). next_by c.args.rule (next_place is_some c.hits.first.from c.hits.first.scores) (next_place is_some c.hits.first.from scores)) (sym c.hits.invariant.1)
    ∙ ap (λ n. next_by c.args.rule (next_place is_some c.hits.first.from c.hits.first.scores) (next_place is_some n c.hits.second.scores)) (sym c.hits.invariant.3)
    ∙ sym c.next_of.ensures.value ∙ c.in_default.is in
    c.finish.ensures.scores
    ∙ ap (λ n. padded n c.hits.hits.done) (c.hits.invariant.2 ∙ c.len-len.ensures)
    ∙ merging_ends (put_together c.args.rule) c.args.one.now c.args.other.now c.hits.hits.done c.hits.first.from c.hits.invariant.5 c.requires
    (silent_to c.args.rule c.hits.first.from (length c.args.one.now) c.args.one.now c.args.other.now (never_behind _ (length c.args.one.now) none))
