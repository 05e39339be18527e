-- What hits and pages weigh, one after the other.
use Rattle.std.proofs.Common.{◌≡◌, ℕ, ◌+◌, ◌<◌, ◌≤◌, List as Seq, [], ◌∷◌, ◌++◌, map, drop, refl, ap, ◌∙◌, arith}
use Rattle.std.proofs.lemmas.List.{map-append}
use Rattle.flattener.specs.StandsFor.{Marked}
use Rattle.mapping.specs.Mapping.{Mapping}
use Rattle.query_ast.specs.Definition.{definitions_of}
use Rattle.query_ast.specs.Inner.View.{inner_of}
use Rattle.query_ast.specs.InnerHits.{inner_pages}
use Rattle.query_ast.specs.Pages.{HitPart, PagePart, hits_of, pages_of}
use Rattle.query_ast.specs.Pages.View.{hit_part, page_part}
use Rattle.query_ast.specs.declared.hit.InnerHit.{InnerHit}
use Rattle.query_ast.specs.declared.hit.InnerPage.{InnerPage}
use Rattle.query_ast.specs.declared.inner.InnerDef.{InnerDef}
use Rattle.reply_text.specs.Weight.{hit_weight, hits_weight, pages_weight}
use Rattle.reply_text.specs.declared.room.TheConstants.{PAGE_BYTES}
use Rattle.tree_objects.specs.Tree.{Tree}
use Rattle.view_objects.specs.Hits.{live_trees, object_at}
use Rattle.view_objects.specs.declared.hit.Hit.{Hit}
use Rattle.inner_hits.specs.Hits.{shown_as}

hits_parts : (xs ys : Seq HitPart) → hits_weight (hits_of (xs ++ ys)) ≡ hits_weight (hits_of xs) + hits_weight (hits_of ys)
hits_parts [] ys = omega arith
hits_parts (x ∷ xs) ys = omega (arith, hits_parts xs ys)

pages_parts : (xs ys : Seq PagePart) → pages_weight (pages_of (xs ++ ys)) ≡ pages_weight (pages_of xs) + pages_weight (pages_of ys)
pages_parts [] ys = omega arith
pages_parts (x ∷ xs) ys = omega (arith, pages_parts xs ys)

abbrev part_weight : HitPart → ℕ
part_weight part = hit_weight part.head.source + pages_weight part.inner

pub pushed_hit : (had new : Seq InnerHit) (one : InnerHit) → new ≡ had ++ one ∷ [] → hits_weight (hits_of (map hit_part new)) ≡ hits_weight (hits_of (map hit_part had)) + part_weight (hit_part one)
pushed_hit had new one is =
    let parts = ap (λ (l : Seq InnerHit). hits_weight (hits_of (map hit_part l))) is ∙ ap (λ (l : Seq HitPart). hits_weight (hits_of l)) (map-append hit_part had (one ∷ [])) ∙ hits_parts (map hit_part had) (hit_part one ∷ []) in
    omega (arith, parts)

pub pushed_page : (had new : Seq InnerPage) (one : InnerPage) → new ≡ had ++ one ∷ []
    → pages_weight (pages_of (map page_part new)) ≡ pages_weight (pages_of (map page_part had)) + (PAGE_BYTES + hits_weight (page_part one).hits)
pushed_page had new one is =
    let parts = ap (λ (l : Seq InnerPage). pages_weight (pages_of (map page_part l))) is ∙ ap (λ (l : Seq PagePart). pages_weight (pages_of l)) (map-append page_part had (one ∷ []))
    ∙ pages_parts (map page_part had) (page_part one ∷ []) in
    omega (arith, parts)

-- the hits that were made and the next one weigh no more than all
module _ (f : Hit → HitPart) (hits : Seq Hit) (i : ℕ) (h : Hit) (had : Seq InnerHit) where
  next_weighs : drop i hits ≡ h ∷ drop (i + 1) hits → map hit_part had ++ map f (drop i hits) ≡ map f hits → hits_weight (hits_of (map hit_part had)) + part_weight (f h) ≤ hits_weight (hits_of (map f hits))
  next_weighs step goes =
      omega (
        arith,
        ap (λ (l : Seq HitPart). hits_weight (hits_of l)) goes,
        hits_parts (map hit_part had) (map f (drop i hits)),
        ap (λ (l : Seq Hit). hits_weight (hits_of (map f l))) step,
      )

  -- so where there is less left than it or its pages weigh, there is less than all weigh
  pub inner_passes : (room : ℕ) → drop i hits ≡ h ∷ drop (i + 1) hits → map hit_part had ++ map f (drop i hits) ≡ map f hits → room < pages_weight (f h).inner
      → room + hits_weight (hits_of (map hit_part had)) < hits_weight (hits_of (map f hits))
  inner_passes room step goes less = omega (arith, next_weighs step goes, less)

  pub hit_passes : (one : InnerHit) (room : ℕ) → drop i hits ≡ h ∷ drop (i + 1) hits → map hit_part had ++ map f (drop i hits) ≡ map f hits → hit_part one ≡ f h → room < hit_weight one.source
      → room + pages_weight (hit_part one).inner + hits_weight (hits_of (map hit_part had)) < hits_weight (hits_of (map f hits))
  hit_passes one room step goes own less = omega (arith, next_weighs step goes, ap part_weight own, less)

pub inner_weighs : (m : Mapping) (trees : Seq (Seq (Marked Tree))) (def : InnerDef) (hit : Hit)
    → pages_weight (shown_as m trees (inner_of def) hit).inner ≡ pages_weight (pages_of (inner_pages m (live_trees trees) (definitions_of def.owned) (object_at m trees hit.place hit.doc)))
unfolding shown_as
inner_weighs m trees def hit = refl
