use Rattle.std.proofs.Common.{◌≡◌, ◌++◌, List, sym, subst, ap, ◌∙◌, arith}
use Rattle.std.proofs.lemmas.List.{append-nil, drop_all}
use Rattle.view_objects.specs.Hits.{hits_from, hits_in, hits_of}
use Rattle.view_objects.specs.declared.hit.Hit.{Hit}
use Rattle.nested_sort.specs.Reached.{AreKept, key_by}
use Rattle.nested_sort.proofs.Reaches.{entry_more, kept_narrower, long_at}
use Rattle.nested_sort.proofs.reached.candidates.Goals as goal

pub add_candidates-requires-clause-long : goal.add_candidates-requires-clause-long
add_candidates-requires-clause-long c = long_at c.args.entries.now c.args.found.now c.entries.at c.index-found-at.result c.requires.found c.entries-test.true c.index-found-at.is

pub entries-preserved : goal.entries-preserved
entries-preserved c =
    let was = c.entries.invariant in (
      was.0 ++ hits_from c.entries.at 0 c.index-found-at.result,
      entry_more c.args.found.now c.entries.at c.index-found-at.result was.0 c.entries-test.true c.index-found-at.is was.1,
      c.in_ok-add_candidates.ensures c.args.keys.now.direction c.args.keys.now.after c.args.keys.now.most was.0 was.2,
    )

pub returns : goal.returns
returns c =
    let found = c.args.found.now in
    let key = key_by c.args.entries.now c.args.clause.now in
    let was = c.entries.invariant in
    let all : was.0 ≡ hits_in found =
    sym (append-nil was.0) ∙ (sym (ap (λ left. was.0 ++ hits_of c.entries.at left) (drop_all c.entries.at found (omega (arith, c.entries-test.false)))) ∙ was.1) in
    kept_narrower key c.args.keys.now.direction c.args.keys.now.after c.args.keys.now.most (hits_in found) c.entries.kept.items c.entries.keys c.narrow.new.self c.narrow.ensures.narrower c.narrow.ensures.met
    (subst (λ (hits : List Hit). AreKept key c.args.keys.now.direction c.args.keys.now.after c.args.keys.now.most hits c.entries.kept.items c.entries.keys) all was.2)
