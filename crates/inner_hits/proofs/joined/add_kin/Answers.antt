use Rattle.std.proofs.Common.{◌++◌, ℕ, Option, List, get_or, refl, sym, ap, subst, ◌∙◌, arith}
use Rattle.std.proofs.lemmas.List.{get_or_default}
use Rattle.std.specs.List.{All}
use Rattle.nested_sort.specs.Listed.{IsCapped}
use Rattle.view_objects.specs.Hits.{hits_between}
use Rattle.view_objects.specs.declared.hit.Hit.{Hit}
use Rattle.inner_hits.specs.Kinship.{kin_from}
use Rattle.inner_hits.proofs.Capped.{capped_none}
use Rattle.inner_hits.proofs.Gathering.{kin_end, kin_step, place_low, range_at}
use Rattle.inner_hits.proofs.joined.add_kin.Goals as goal

pub hits-init : goal.hits-init
hits-init c = (refl, λ all. all, subst (λ (l : List Hit). All IsCapped l) (sym c.deref-hit-items.ensures.value) (c.in_ok-add_hits.ensures.capped (capped_none c.new-hits.result.items c.new-hits.ensures.items)))

pub hits-preserved : goal.hits-preserved
hits-preserved c = (
  kin_step c.args.mapping.now c.args.ordinals.now c.args.side c.args.entries.now c.deref-hit-items.result.now c.hits.hit-index _ c.hits.kin.items c.add_one.new.kin.items
      (c.args.kin.now.items ++ kin_from c.args.mapping.now c.args.ordinals.now c.args.side c.args.entries.now c.deref-hit-items.result.now) c.hits-test.true (get_or_default c.deref-hit-items.result.now c.hits.hit-index _ _ c.hits-test.true) c.in_ok-add_one.ensures.kin c.hits.invariant.0,
  λ all. c.in_ok-add_one.ensures.capped (c.hits.invariant.1 all),
  c.hits.invariant.2,
)

pub returns-clause-kin : goal.returns-clause-kin
returns-clause-kin c =
    kin_end c.args.mapping.now c.args.ordinals.now c.args.side c.args.entries.now c.deref-hit-items.result.now c.hits.hit-index c.hits.kin.items
    (c.args.kin.now.items ++ kin_from c.args.mapping.now c.args.ordinals.now c.args.side c.args.entries.now c.deref-hit-items.result.now) (omega (arith, c.hits-test.false)) c.hits.invariant.0
    ∙ ap (λ (l : List Hit). c.args.kin.now.items ++ kin_from c.args.mapping.now c.args.ordinals.now c.args.side c.args.entries.now l)
    (range_at c.args.place c.args.matches.now c.index-as_slice-place.result c.len.result c.deref-hit-items.result.now (place_low c.args.entries.now c.args.matches.now c.args.place c.requires.long c.requires.place) (c.index-as_slice-place.is ∙ ap (λ (l : List (List (Option ℕ))). get_or l c.args.place c.index-as_slice-place.result) c.as_slice.ensures) c.len.ensures (c.deref-hit-items.ensures.value ∙ c.in_ok-add_hits.ensures.hits ∙ ap (λ (l : List Hit). l ++ hits_between c.args.place 0 c.len.result c.index-as_slice-place.result) c.new-hits.ensures.items))

pub returns-clause-capped : goal.returns-clause-capped
returns-clause-capped c = c.hits.invariant.1
