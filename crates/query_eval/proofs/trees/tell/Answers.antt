use Rattle.std.proofs.Common.{◌≡◌, ◌<◌, ◌+◌, ◌++◌, List, [], ℕ, Some, None, length, take, drop, get_or, refl, sym, ap, subst, ◌∙◌, arith, append_assoc}
use Rattle.std.specs.Option.{is_some}
use Rattle.block_bits.specs.Places.{AllFail, IsFirst, next_place}
use Rattle.block_join.specs.Scores.{Standing}
use Rattle.query_eval.specs.Sides.{AreKeyScores, HaveTallies, at_roots, key_count, keys_at, pair_if, told}
use Rattle.query_eval.proofs.Entries.{Scores, nil_append}
use Rattle.query_eval.proofs.Hits.{told_all, told_hit, told_roots, told_start}
use Rattle.query_eval.proofs.trees.tell.Goals as goal

pub documents-init : goal.documents-init
documents-init c =
    let keys = at_roots c.args.roots.now (keys_at c.args.mapping.now c.args.joins.now c.args.side c.args.segment.now c.args.place) in
    let hits = c.args.hits.now in
    let from : c.cursor-left.result.from ≡ 0 = ap (λ (x : Standing). x.from) c.cursor-left.ensures in (
      ap (λ (x : Standing). x.scores) c.cursor-left.ensures,
      omega (arith, from),
      refl,
      λ asked pairs was.
          let none : told (take c.cursor-left.result.from keys) (take c.cursor-left.result.from hits) ≡ [] = ap (λ n. told (take n keys) (take n hits)) from ∙ told_start keys hits in
          subst (λ (l : List (ℕ × ℕ)). AreKeyScores asked l c.args.keyed.now) (sym (nil_append pairs) ∙ ap (λ (l : List (ℕ × ℕ)). pairs ++ l) (sym none)) was,
    )

pub take_at-score-requires : goal.take_at-score-requires
take_at-score-requires c =
    let long : length c.documents.left.scores ≡ length c.args.hits.now = ap length c.documents.invariant.0 in
    record {
      ordered = c.in-Some.ensures.within.0;
      within = c.in-Some.ensures.within.1;
      numbered = omega (arith, long, c.len-documents.ensures, c.len-documents.type_inv);
    }

pub key_if-key-requires : goal.key_if-key-requires
key_if-key-requires c = record {
  document = omega (arith, c.in-Some.ensures.within.1, ap length c.documents.invariant.0, c.requires.documents);
  roots = c.requires.roots;
  relations = c.requires.relations;
}

pub tell_one-requires : goal.tell_one-requires
tell_one-requires c = record {
  key = c.key_if-key.ensures.within (key_count c.documents.keyed) (subst (HaveTallies c.args.joins.now c.args.side c.args.place) (sym c.documents.invariant.2) c.requires.keys);
  capped = c.take_at-score.ensures.capped;
}

pub documents-preserved : goal.documents-preserved
documents-preserved c =
    let keys = at_roots c.args.roots.now (keys_at c.args.mapping.now c.args.joins.now c.args.side c.args.segment.now c.args.place) in
    let hits = c.args.hits.now in
    let from = c.documents.left.from in
    let doc = c.in-Some.doc in
    let score = c.take_at-score.result in
    let key = c.key_if-key.result in
    let keyed = c.tell_one.new.keyed in
    let new = c.take_at-score.new.left.from in
    let at : new ≡ doc + 1 = ap (λ (x : Standing). x.from) c.take_at-score.ensures.place in
    let long : length c.documents.left.scores ≡ length hits = ap length c.documents.invariant.0 in
    let next : next_place is_some from hits ≡ Some doc = ap (next_place is_some from) (sym c.documents.invariant.0) ∙ sym c.peek.ensures.value ∙ c.in-Some.is in
    let first : IsFirst is_some from (drop from hits) doc = (c.places_are_nearest.ensures.next is_some from doc hits).0 next in
    let below : doc < length hits = omega (arith, long, c.in-Some.ensures.within.1) in
    let own : score ≡ get_or hits doc None = c.take_at-score.ensures.value ∙ ap (λ (l : Scores). get_or l doc None) c.documents.invariant.0 in
    let more : told (take new keys) (take new hits) ≡ told (take from keys) (take from hits) ++ pair_if key score =
    ap (λ n. told (take n keys) (take n hits)) at ∙ told_hit keys hits from doc key score first below c.key_if-key.ensures.key own in (
      ap (λ (x : Standing). x.scores) c.take_at-score.ensures.place ∙ c.documents.invariant.0,
      omega (arith, at, below),
      c.in_ok-tell_one.ensures.long ∙ c.documents.invariant.2,
      λ asked pairs was.
          subst (λ (l : List (ℕ × ℕ)). AreKeyScores asked l keyed)
          (append_assoc pairs (told (take from keys) (take from hits)) (pair_if key score)
          ∙ ap (λ (l : List (ℕ × ℕ)). pairs ++ l) (sym more))
          (c.in_ok-tell_one.ensures.scores asked (pairs ++ told (take from keys) (take from hits)) (c.documents.invariant.3 asked pairs was)),
    )

pub documents-smaller : goal.documents-smaller
documents-smaller c =
    let at : c.take_at-score.new.left.from ≡ c.in-Some.doc + 1 = ap (λ (x : Standing). x.from) c.take_at-score.ensures.place in
    omega (arith, at, ap length c.documents.invariant.0, c.in-Some.ensures.within.0, c.in-Some.ensures.within.1)

pub returns-clause-long : goal.returns-clause-long
returns-clause-long c = c.documents.invariant.2

pub returns-clause-scores : goal.returns-clause-scores
returns-clause-scores c = λ asked pairs was.
    let roots = c.args.roots.now in
    let keys = keys_at c.args.mapping.now c.args.joins.now c.args.side c.args.segment.now c.args.place in
    let hits = c.args.hits.now in
    let from = c.documents.left.from in
    let next : next_place is_some from hits ≡ None = ap (next_place is_some from) (sym c.documents.invariant.0) ∙ sym c.peek.ensures.value ∙ c.in_default.is in
    let fail : AllFail is_some (drop from hits) = (c.places_are_nearest.ensures.no_next is_some from hits).0 next in
    subst (λ (l : List (ℕ × ℕ)). AreKeyScores asked (pairs ++ l) c.documents.keyed) (told_all (at_roots roots keys) hits from c.documents.invariant.1 fail ∙ sym (told_roots roots keys hits)) (c.documents.invariant.3 asked pairs was)
