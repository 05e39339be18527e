use Rattle.std.proofs.Common.{◌≡◌, ◌<◌, ◌++◌, List, [], ◌∷◌, length, map, get_or, refl, sym, ap, subst, ◌∙◌, arith}
use Rattle.std.proofs.lemmas.List.{map-append}
use Rattle.leaf_search.specs.Lent.{set_of}
use Rattle.leaf_search.specs.declared.document_set.DocumentSet.{DocumentSet}
use Rattle.query_ast.specs.Clause.{match_all}
use Rattle.query_eval.specs.Folds.{leaf_score, whatever}
use Rattle.query_eval.specs.Found.{AreLong}
use Rattle.query_eval.specs.Lent.{lent_scores}
use Rattle.query_eval.proofs.Clauses.{found_leaf}
use Rattle.query_eval.proofs.Entries.{Done, Scores, entry_step, done_start, done_step, all_seen}
use Rattle.query_eval.proofs.Seen.{leaf_long, leaf_seen}
use Rattle.query_eval.proofs.leaves.all_objects.Goals as goal

pub entries-init : goal.entries-init
entries-init c = λ m.
    let view = c.args.entries.now in
    let given = whatever (leaf_score m match_all 1) in
    let none : [] ≡ c.in_ok-sets.sets.items = sym c.in_ok-sets.ensures.items in (
      subst (λ (l : List DocumentSet). AreLong [] (map lent_scores l)) none tt,
      subst (λ (l : List DocumentSet). Done m view c.args.scope given 0 (map lent_scores l)) none (done_start m view c.args.scope given),
    )

pub entries-preserved : goal.entries-preserved
entries-preserved c = λ m.
    let n = c.args.scope in
    let e = c.index-entries-at.result in
    let set = c.in_ok-set.set in
    let made : List Scores = map lent_scores c.entries.sets.items in
    let below : c.entries.at < length c.args.entries.now = omega (arith, c.entries-test.true) in
    let pushed : map lent_scores c.push.new.self.items ≡ made ++ lent_scores set ∷ [] = ap (map lent_scores) c.in_ok-push.ensures.items ∙ map-append lent_scores c.entries.sets.items (set ∷ []) in
    let own = c.in_ok-set.ensures m in
    let long = leaf_long m e c.segment.result.now c.live.result.now n match_all 1 (set_of set) c.segment.ensures c.live.ensures.live own in
    let seen = leaf_seen m e c.segment.result.now c.live.result.now n match_all 1 (set_of set) c.segment.ensures c.live.ensures.live own in (
      entry_step c.args.entries.now c.entries.at e made (map lent_scores c.push.new.self.items) (lent_scores set) c.index-entries-at.is below (c.entries.invariant m).0 long pushed,
      done_step m c.args.entries.now n (whatever (leaf_score m match_all 1)) c.entries.at e made (map lent_scores c.push.new.self.items) (lent_scores set)
          (c.entries.invariant m).1 below c.index-entries-at.is pushed
          (λ trees stands here. seen (get_or trees c.entries.at []) tt here),
    )

pub returns : goal.returns
returns c = λ m.
    let all = map lent_scores c.entries.sets.items in
    found_leaf m c.args.entries.now c.args.scope match_all 1 all
    (all_seen m c.args.entries.now c.args.scope (whatever (leaf_score m match_all 1)) c.entries.at all all (c.entries.invariant m).1 (c.entries.invariant m).0
    (omega (arith, c.entries-test.false)) refl)
