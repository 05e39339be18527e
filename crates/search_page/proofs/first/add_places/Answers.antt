use Rattle.std.proofs.Common.{◌≡◌, ◌+◌, ◌++◌, ℕ, Bool, List, [], ◌∷◌, Some, None, length, map, take, sym, ap, ◌∙◌, append_assoc, arith}
use Rattle.std.proofs.lemmas.List.{length_push}
use Rattle.block_bits.specs.Flags.{is_marked}
use Rattle.block_bits.specs.Places.{next_place}
use Rattle.block_bits.specs.Walks.{Walking}
use Rattle.search_page.specs.Hits.{place_of}
use Rattle.hit_order.specs.declared.column.RowPlace.{RowPlace}
use Rattle.bucket_aggs.proofs.Documents.{left_of, nothing_behind, walk_end, walk_on}
use Rattle.search_page.proofs.Front.{taken_full, taken_whole}
use Rattle.search_page.proofs.first.add_places.Goals as goal

pub documents-preserved : goal.documents-preserved
documents-preserved c =
    let flags : List Bool = c.args.set.now in
    let from : ℕ = c.documents.walk.from in
    let doc : ℕ = c.in-Some.doc in
    let f : ℕ → RowPlace = place_of c.args.place in
    let old : List RowPlace = c.documents.places.items in
    let new : List RowPlace = c.push.new.self.items in
    let next : Some doc ≡ next_place is_marked from flags = sym c.in-Some.is ∙ c.next.ensures.value ∙ ap (next_place is_marked from) c.documents.invariant.0 in
    let pushed : new ≡ old ++ f doc ∷ [] = c.in_ok-push.ensures.items in (
      ap (λ (w : Walking). w.documents) c.in-Some.ensures.found ∙ c.documents.invariant.0,
      omega (arith, ap (λ (l : List RowPlace). length l) pushed, length_push old (f doc), c.len.ensures, c.if-len-most.false),
      ap (λ (w : Walking). new ++ map f (left_of flags w.from)) c.in-Some.ensures.found
          ∙ ap (λ (l : List RowPlace). l ++ map f (left_of flags (doc + 1))) pushed
          ∙ append_assoc old (f doc ∷ []) (map f (left_of flags (doc + 1)))
          ∙ ap (λ (l : List ℕ). old ++ map f l) (sym (walk_on flags from doc next))
          ∙ c.documents.invariant.2,
    )

pub returns-then-len-most : goal.returns-then-len-most
returns-then-len-most c =
    let flags : List Bool = c.args.set.now in
    let places : List RowPlace = c.documents.places.items in
    let full : length places ≡ c.args.most = omega (arith, c.len.ensures, c.if-len-most.true, c.documents.invariant.1) in
    sym (taken_full c.args.most places (map (place_of c.args.place) (left_of flags c.documents.walk.from)) full) ∙ ap (take c.args.most) c.documents.invariant.2

pub returns : goal.returns
returns c =
    let flags : List Bool = c.args.set.now in
    let from : ℕ = c.documents.walk.from in
    let f : ℕ → RowPlace = place_of c.args.place in
    let places : List RowPlace = c.documents.places.items in
    let ended : None ≡ next_place is_marked from flags = sym c.in_default.is ∙ c.next.ensures.value ∙ ap (next_place is_marked from) c.documents.invariant.0 in
    let all : places ≡ c.args.places.now.items ++ map f (left_of flags 0) =
    nothing_behind places ∙ ap (λ (l : List ℕ). places ++ map f l) (sym (walk_end flags from ended)) ∙ c.documents.invariant.2 in
    sym (taken_whole c.args.most places c.documents.invariant.1) ∙ ap (take c.args.most) all
