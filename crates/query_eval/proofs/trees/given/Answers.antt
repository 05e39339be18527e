use Rattle.std.proofs.Common.{◌≡◌, ◌≤◌, ◌+◌, ℕ, List, [], ◌∷◌, Some, length, map, slice_get, sym, ap, subst, ◌∙◌, arith, length-append}
use Rattle.std.proofs.lemmas.List.{length-map}
use Rattle.std.proofs.lemmas.List.FromFn.{length-map-range_with_len}
use Rattle.block_bits.specs.Blocks.{documents_of}
use Rattle.block_join.specs.Scores.{Begun, padded}
use Rattle.segment.specs.Roots.{root_documents}
use Rattle.segment_parts.specs.Text.{marked_places}
use Rattle.query_eval.specs.Folds.{scopes_in}
use Rattle.query_eval.specs.Sides.{answer_for, key_at, keys_at}
use Rattle.query_eval.proofs.Entries.{Scores}
use Rattle.query_eval.proofs.Hits.{root_places}
use Rattle.query_eval.proofs.Scopes.{documents_long}
use Rattle.query_eval.proofs.Walking.{Giving, giving_end, giving_none, giving_some, giving_start, padded_long, places_ascend}
use Rattle.query_eval.proofs.trees.given.Goals.{in-Some+in_ok-push, in_default}
use Rattle.query_eval.proofs.trees.given.Goals as goal

pub roots-init : goal.roots-init
roots-init c =
    let done : c.in_ok-hits.hits.done ≡ [] = ap (λ (x : Begun). x.done) c.in_ok-hits.ensures in (
      ap (λ (x : Begun). x.len) c.in_ok-hits.ensures ∙ c.docs-documents.ensures.documents,
      λ root doc from at. omega (arith, ap length done),
      λ asked pairs was.
          let flags = documents_of (scopes_in c.args.segment.now) 0 in
          let all = map (answer_for asked pairs) (keys_at c.args.mapping.now c.args.joins.now c.args.side c.args.segment.now c.args.place) in
          subst (λ (l : Scores). Giving flags all l 0) (sym done) (giving_start flags all),
    )

pub roots-preserved : goal.roots-preserved
roots-preserved c =
    let flags = documents_of (scopes_in c.args.segment.now) 0 in
    let keys = keys_at c.args.mapping.now c.args.joins.now c.args.side c.args.segment.now c.args.place in
    let old = c.roots.hits.done in
    let at = c.roots.root in
    let places : root_documents c.args.segment.now.scopes ≡ marked_places 0 flags = root_places c.args.segment.now c.docs-documents.ensures.agree c.scopes_are_of_documents.ensures.sets in
    elim c.match-given_to.branch [
      | in-Some+in_ok-push w ↦
          let doc = w.root_doc.result in
          let new = w.push.new.self.done in
          let here : slice_get (marked_places 0 flags) at ≡ Some doc = ap (λ (l : List ℕ). slice_get l at) (sym places) ∙ w.root_doc.ensures.document in
          let low : length old ≤ doc = c.roots.invariant.1 at doc (omega arith) w.root_doc.ensures.document in
          let long : length new ≡ doc + 1 = omega (arith, ap length w.in_ok-push.ensures.done, length-append (padded doc old) (Some w.in-Some.score ∷ []), padded_long old doc low) in (
            ap (λ (x : Begun). x.len) w.hits-is ∙ w.push.ensures.len ∙ c.roots.invariant.0,
            λ root after later there.
                omega (
                  arith,
                  long,
                  ap (λ (x : Begun). length x.done) w.hits-is,
                  places_ascend 0 flags at root doc after here (ap (λ (l : List ℕ). slice_get l root) (sym places) ∙ there) (omega (arith, later)),
                ),
            λ asked pairs was.
                subst (λ (l : Scores). Giving flags (map (answer_for asked pairs) keys) l (at + 1)) (sym (ap (λ (x : Begun). x.done) w.hits-is))
                (giving_some flags (map (answer_for asked pairs) keys) old new at doc w.in-Some.score (c.roots.invariant.2 asked pairs was) here (sym w.in-Some.is ∙ c.given_to.ensures.given asked pairs was) low w.in_ok-push.ensures.done),
          )
      | in_default w ↦ (
        ap (λ (x : Begun). x.len) w.hits-is ∙ c.roots.invariant.0,
        λ root doc later there. omega (arith, ap (λ (x : Begun). length x.done) w.hits-is, c.roots.invariant.1 root doc (omega (arith, later)) there),
        λ asked pairs was.
            subst (λ (l : Scores). Giving flags (map (answer_for asked pairs) keys) l (at + 1)) (sym (ap (λ (x : Begun). x.done) w.hits-is))
            (giving_none flags (map (answer_for asked pairs) keys) old at (c.roots.invariant.2 asked pairs was) (sym w.in_default.is ∙ c.given_to.ensures.given asked pairs was)),
      )
    ]

pub returns-clause-scores : goal.returns-clause-scores
returns-clause-scores c = λ asked pairs was.
    let keys = keys_at c.args.mapping.now c.args.joins.now c.args.side c.args.segment.now c.args.place in
    let all = map (answer_for asked pairs) keys in
    let count = length c.args.segment.now.roots in
    let past : length all ≤ c.roots.root =
    omega (arith, c.roots-test.false, c.roots-count.ensures.roots, length-map keys (answer_for asked pairs), length-map-range_with_len (key_at c.args.mapping.now c.args.joins.now c.args.side c.args.segment.now c.args.place) 0 count) in
    c.finish.ensures.scores
    ∙ ap (λ n. padded n c.roots.hits.done) (c.roots.invariant.0 ∙ sym (documents_long c.args.segment.now 0))
    ∙ giving_end (documents_of (scopes_in c.args.segment.now) 0) all c.roots.hits.done c.roots.root (c.roots.invariant.2 asked pairs was) past
