use Rattle.std.proofs.Common.{◌+◌, ◌++◌, ℕ, Bool, List, Option, length, take, drop, map, sym, ap, ◌∙◌, append_assoc, arith}
use Rattle.search_page.specs.Hits.{place_of, places_of}
use Rattle.segment_parts.specs.Text.{marked_places}
use Rattle.hit_order.specs.declared.column.RowPlace.{RowPlace}
use Rattle.bucket_aggs.proofs.Documents.{nothing_behind}
use Rattle.search_page.proofs.Front.{places_end, places_step, taken_few, taken_on, taken_whole}
use Rattle.search_page.proofs.first.first_places.Goals as goal

pub entries-preserved : goal.entries-preserved
entries-preserved c =
    let most = c.args.most in
    let found : List (List (Option ℕ)) = c.args.found.now in
    let scores : List (Option ℕ) = c.index-found-at.result in
    let flags : List Bool = c.set.result.now in
    let old : List RowPlace = c.entries.places.items in
    let new : List RowPlace = c.add_places.new.places.items in
    let own : List RowPlace = map (place_of c.entries.at) (marked_places 0 flags) in
    let rest : List RowPlace = places_of (c.entries.at + 1) (drop (c.entries.at + 1) found) in (
      omega (arith, ap (λ (l : List RowPlace). length l) c.in_ok-add_places.ensures, taken_few most (old ++ own)),
      ap (λ (l : List RowPlace). take most (l ++ rest)) c.in_ok-add_places.ensures
          ∙ taken_on most (old ++ own) rest
          ∙ ap (take most) (append_assoc old own rest ∙ ap (λ (l : List RowPlace). old ++ l) (sym (places_step c.entries.at found scores flags c.entries-test.true c.index-found-at.is c.set.ensures)))
          ∙ c.entries.invariant.1,
    )

pub returns : goal.returns
returns c =
    let most = c.args.most in
    let places : List RowPlace = c.entries.places.items in
    sym (taken_whole most places c.entries.invariant.0)
    ∙ ap (take most) (nothing_behind places ∙ ap (λ (l : List RowPlace). places ++ l) (sym (places_end c.entries.at c.args.found.now c.entries-test.false)))
    ∙ c.entries.invariant.1
