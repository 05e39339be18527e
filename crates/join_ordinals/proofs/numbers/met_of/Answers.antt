use Rattle.std.proofs.Common.{◌≡◌, ◌<◌, ◌∷◌, [], ◌++◌, ◌∙◌, Bor, List, Some, ap, get_or, length, map, slice_get, sym, ℕ, arith}
use Rattle.std.specs.Option.{option_map}
use Rattle.std.proofs.lemmas.List.{map-append}
use Rattle.std.proofs.lemmas.List.Elements.{All-push}
use Rattle.std.proofs.lemmas.Option.{slice_get-get_or, slice_get-map}
use Rattle.join_ordinals.specs.Numbers.{HasHash}
use Rattle.join_ordinals.specs.declared.numbers.Met.{Met}
use Rattle.join_ordinals.proofs.Grouping.{range_more}
use Rattle.join_ordinals.proofs.numbers.met_of.Goals as goal

pub ids-preserved : goal.ids-preserved
ids-preserved c =
    let all : List (Bor (List ℕ)) = c.as_slice-all.result.now in
    let place : ℕ = c.ids.place in
    let none : Bor (List ℕ) = record { ref_ptr = (0, 0); now = [] } in
    let one : Met = record { hash = c.hash_of.result; id = get_or all place none; place = place } in
    let below : place < length all = omega (arith, c.ids-test.true, c.in-Ok.ensures.1) in
    let there : slice_get c.args.ids.now place ≡ Some one.id.now =
    ap (λ (ids : List (List ℕ)). slice_get ids place) (sym c.as_slice-all.ensures) ∙ slice_get-map (λ (id : Bor (List ℕ)). id.now) all place
    ∙ ap (option_map (λ (id : Bor (List ℕ)). id.now)) (slice_get-get_or all place none below) in (
      rw c.in_ok-push.ensures.items (All-push HasHash c.ids.met.items one c.ids.invariant.0 c.hash_of.ensures),
      rw c.in_ok-push.ensures.items (All-push (λ (it : Met). slice_get c.args.ids.now it.place ≡ Some it.id.now) c.ids.met.items one c.ids.invariant.1 there),
      ap (map (λ (it : Met). it.place)) c.in_ok-push.ensures.items ∙ map-append (λ (it : Met). it.place) c.ids.met.items (one ∷ [])
          ∙ ap (λ (ns : List ℕ). ns ++ place ∷ []) c.ids.invariant.2 ∙ range_more place,
    )
