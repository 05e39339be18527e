use Rattle.std.proofs.Common.{◌≡◌, ◌++◌, ℕ, FitsSigned, IfSome, List, Option, [], refl, sym, subst, ap, rules, w64, ◌∙◌, arith}
use Rattle.std.proofs.lemmas.Int.{to_z-of_z}
use Rattle.std.proofs.lemmas.List.{append-nil, drop_all}
use Rattle.hit_order.specs.Reach.{is_near}
use Rattle.query_ast.specs.declared.sort.Key.TheVariants.{Number as NumberKey}
use Rattle.view_objects.specs.Hits.{hits_from, hits_in, hits_of}
use Rattle.view_objects.specs.declared.hit.Hit.{Hit}
use Rattle.nested_sort.specs.Near.{AreNear, IsCutAt}
use Rattle.nested_sort.specs.Reached.{AreKept, key_by}
use Rattle.nested_sort.specs.declared.reached.Candidate.{Candidate}
use Rattle.nested_sort.proofs.Nearby.{entry_near, kept_near, keys_ordered, near_append, near_long, near_none}
use Rattle.nested_sort.proofs.Reaches.{entry_more, kept_narrower, kept_none, long_at}
use Rattle.nested_sort.proofs.reached.near_candidates.Goals as goal

pub near_hits-requires-clause-long : goal.near_hits-requires-clause-long
near_hits-requires-clause-long c = long_at c.args.entries.now c.args.found.now c.entries.at c.index-found-at.result c.requires.found c.entries-test.true c.index-found-at.is

pub add_candidates-requires-clause-long : goal.add_candidates-requires-clause-long
add_candidates-requires-clause-long c =
    near_long c.args.entries.now c.entries.at c.args.clause.now c.args.reach c.index-found-at.result c.in-Some.near
    (long_at c.args.entries.now c.args.found.now c.entries.at c.index-found-at.result c.requires.found c.entries-test.true c.index-found-at.is)
    (subst (λ (made : Option (List (Option ℕ))). IfSome made (λ near. IsCutAt c.args.entries.now c.entries.at c.args.clause.now c.args.reach c.index-found-at.result near)) c.in-Some.is c.in_ok-near.ensures)

pub entries-init : goal.entries-init
entries-init c =
    let keys = c.args.keys.now in
    let key = key_by c.args.entries.now c.args.clause.now in (
      [],
      [],
      refl,
      near_none key keys.direction keys.after c.args.reach.limit,
      subst (λ (kept : List Candidate). AreKept key keys.direction keys.after keys.most [] kept keys) (sym c.new-kept.ensures.items) (kept_none key keys.direction keys.after keys.most keys refl refl refl c.requires.none c.requires.new),
    )

pub entries-preserved : goal.entries-preserved
entries-preserved c =
    let was = c.entries.invariant in
    let keys = c.args.keys.now in
    let key = key_by c.args.entries.now c.args.clause.now in
    let all = hits_from c.entries.at 0 c.index-found-at.result in
    let some = hits_from c.entries.at 0 c.in-Some.near in (
      was.0 ++ all,
      was.1 ++ some,
      entry_more c.args.found.now c.entries.at c.index-found-at.result was.0 c.entries-test.true c.index-found-at.is was.2,
      near_append key keys.direction keys.after c.args.reach.limit was.0 was.1 all some was.3
          (entry_near c.args.entries.now c.entries.at c.index-found-at.result c.in-Some.near c.args.reach keys.direction (keys_ordered keys.direction c.rows_stand_in_order.ensures.order) keys.after c.requires.null c.requires.direction c.requires.after c.args.clause.now c.requires.suited
          (long_at c.args.entries.now c.args.found.now c.entries.at c.index-found-at.result c.requires.found c.entries-test.true c.index-found-at.is)
          (subst (λ (made : Option (List (Option ℕ))). IfSome made (λ near. IsCutAt c.args.entries.now c.entries.at c.args.clause.now c.args.reach c.index-found-at.result near)) c.in-Some.is c.in_ok-near.ensures)),
      c.in_ok-add_candidates.ensures keys.direction keys.after keys.most was.1 was.4,
    )

pub returns : goal.returns
returns c =
    let was = c.entries.invariant in
    let keys = c.args.keys.now in
    let key = key_by c.args.entries.now c.args.clause.now in
    let found = c.args.found.now in
    let fits : FitsSigned w64 c.args.reach.limit = search rules in
    let all : was.0 ≡ hits_in found =
    sym (append-nil was.0) ∙ (sym (ap (λ left. was.0 ++ hits_of c.entries.at left) (drop_all c.entries.at found (omega (arith, c.entries-test.false)))) ∙ was.2) in
    kept_near key keys.direction keys.after keys.most c.args.reach.limit (hits_in found) was.1 (subst (λ (hits : List Hit). AreNear key keys.direction keys.after c.args.reach.limit hits was.1) all was.3)
    c.entries.kept.items c.narrow.new.self (ap (λ limit. is_near c.narrow.new.self.direction c.narrow.new.self.bound (NumberKey limit)) (sym (to_z-of_z w64 c.args.reach.limit fits)) ∙ (sym c.is_near.ensures ∙ c.if-is_near.false))
    (kept_narrower key keys.direction keys.after keys.most was.1 c.entries.kept.items c.entries.keys c.narrow.new.self c.narrow.ensures.narrower c.narrow.ensures.met was.4)
