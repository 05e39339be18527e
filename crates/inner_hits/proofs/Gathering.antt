-- Hits with their keys, one entry after the other.
use Rattle.std.proofs.Common.{◌≡◌, ℕ, zero, suc, ◌+◌, ◌<◌, ◌≤◌, List as Seq, [], ◌∷◌, ◌++◌, length, get_or, slice_get, take, drop, nat_lt, true, false, Option, Some, None, refl, sym, ap, ◌∙◌, arith, append_assoc}
use Rattle.std.proofs.Math.Seq.{take-length}
use Rattle.std.proofs.lemmas.List.{append-nil, drop_all, drop_more, get_or_default}
use Rattle.std.proofs.lemmas.List.Elements.{filter_map-append}
use Rattle.std.specs.List.{cons_option}
use Rattle.join_ordinals.specs.Ordinals.{Ordinals}
use Rattle.mapping.specs.Mapping.{Mapping}
use Rattle.query_eval.specs.Found.{AreLong}
use Rattle.query_eval.specs.declared.side.Side.{Side}
use Rattle.segment.specs.Live.{EntryState, root_of}
use Rattle.segment_parts.specs.Parts.{root_flags}
use Rattle.std.proofs.lemmas.Bool.Decides.{nat_tests}
use Rattle.view_objects.specs.Hits.{hits_between, hits_from, hits_in, hits_of}
use Rattle.view_objects.specs.declared.hit.Hit.{Hit}
use Rattle.inner_hits.specs.Kinship.{key_in, key_of_doc, kin_from, kin_if}
use Rattle.query_eval.specs.Sides.{key_at}
use Rattle.inner_hits.specs.declared.joined.Kin.{Kin}

-- all documents of an entry are a range
pub whole_range : (place : ℕ) (scores : Seq (Option ℕ)) → hits_between place 0 (length scores) scores ≡ hits_from place 0 scores
whole_range place scores = ap (λ (l : Seq (Option ℕ)). hits_from place 0 l) (take-length scores)

pub hits_more : (from place : ℕ) (scores : Seq (Seq (Option ℕ))) → place < length scores → hits_of from (take (place + 1) scores) ≡ hits_of from (take place scores) ++ hits_from (from + place) 0 (get_or scores place [])
hits_more from place [] low = absurd (omega (arith, low))
hits_more from zero (s ∷ scores) low = let e : from + 0 ≡ from = omega arith in rw e (append-nil (hits_from from 0 s))
hits_more from (suc place) (s ∷ scores) low =
    let e : suc place + 1 ≡ suc (place + 1) = omega arith in
    let on : from + suc place ≡ from + 1 + place = omega arith in
    rw (e, on)
    (ap (λ (l : Seq Hit). hits_from from 0 s ++ l) (hits_more (from + 1) place scores (omega (arith, low)))
    ∙ sym (append_assoc (hits_from from 0 s) (hits_of (from + 1) (take place scores)) (hits_from (from + 1 + place) 0 (get_or scores place []))))

long_view : (view : Seq EntryState) (scores : Seq (Seq (Option ℕ))) → AreLong view scores → length view ≡ length scores
long_view [] [] long = refl
long_view [] (s ∷ scores) long = absurd long
long_view (e ∷ view) [] long = absurd long
long_view (e ∷ view) (s ∷ scores) long = ap suc (long_view view scores long.1)

module _ (m : Mapping) (ordinals : Ordinals) (side : Side) (view : Seq EntryState) where
  pub kin_cons : (hit : Hit) (hits : Seq Hit) → kin_from m ordinals side view (hit ∷ hits) ≡ kin_from m ordinals side view (hit ∷ []) ++ kin_from m ordinals side view hits
  kin_cons hit hits = by (kin_if m ordinals side view hit)
    where
      by : (kin : Option Kin) → cons_option kin (kin_from m ordinals side view hits) ≡ cons_option kin [] ++ kin_from m ordinals side view hits
      by None = refl
      by (Some kin) = refl

  pub kin_more : (place : ℕ) (scores : Seq (Seq (Option ℕ))) (old new : Seq Kin) → place < length view → AreLong view scores → old ≡ kin_from m ordinals side view (hits_in (take place scores))
      → new ≡ old ++ kin_from m ordinals side view (hits_from place 0 (get_or scores place [])) → new ≡ kin_from m ordinals side view (hits_in (take (place + 1) scores))
  kin_more place scores old new low long was is =
      let there : place < length scores = (let e = long_view view scores long in omega (arith, low, e)) in
      let e : 0 + place ≡ place = omega arith in
      is
      ∙ ap (λ (l : Seq Kin). l ++ kin_from m ordinals side view (hits_from place 0 (get_or scores place []))) was
      ∙ sym (filter_map-append (kin_if m ordinals side view) (hits_in (take place scores)) (hits_from place 0 (get_or scores place [])))
      ∙ ap (kin_from m ordinals side view) (sym (hits_more 0 place scores there ∙ ap (λ (k : ℕ). hits_in (take place scores) ++ hits_from k 0 (get_or scores place [])) e))

  pub kin_all : (scores : Seq (Seq (Option ℕ))) (kin : Seq Kin) → AreLong view scores → kin ≡ kin_from m ordinals side view (hits_in (take (length view) scores)) → kin ≡ kin_from m ordinals side view (hits_in scores)
  kin_all scores kin long is =
      let e = long_view view scores long in
      is ∙ ap (λ (l : Seq (Seq (Option ℕ))). kin_from m ordinals side view (hits_in l)) (ap (λ (n : ℕ). take n scores) e ∙ take-length scores)

  pub kin_step : (hits : Seq Hit) (i : ℕ) (hit : Hit) (had new all : Seq Kin) → i < length hits → hit ≡ get_or hits i hit → new ≡ had ++ kin_from m ordinals side view (hit ∷ []) → had ++ kin_from m ordinals side view (drop i hits) ≡ all
      → new ++ kin_from m ordinals side view (drop (i + 1) hits) ≡ all
  kin_step hits i hit had new all low at is goes =
      ap (λ (l : Seq Kin). l ++ kin_from m ordinals side view (drop (i + 1) hits)) is
      ∙ append_assoc had (kin_from m ordinals side view (hit ∷ [])) (kin_from m ordinals side view (drop (i + 1) hits))
      ∙ ap (λ (l : Seq Kin). had ++ l) (sym (kin_cons hit (drop (i + 1) hits)))
      ∙ ap (λ (l : Seq Hit). had ++ kin_from m ordinals side view l) (sym (drop_more hits i hit low ∙ ap (λ (x : Hit). x ∷ drop (i + 1) hits) (sym at)))
      ∙ goes

  pub kin_end : (hits : Seq Hit) (i : ℕ) (had all : Seq Kin) → length hits ≤ i → had ++ kin_from m ordinals side view (drop i hits) ≡ all → had ≡ all
  kin_end hits i had all past goes = sym (append-nil had) ∙ ap (λ (l : Seq Hit). had ++ kin_from m ordinals side view l) (sym (drop_all i hits past)) ∙ goes

module _ (m : Mapping) (ordinals : Ordinals) (side : Side) (view : Seq EntryState) (place doc : ℕ) where
  pub key_in_absent : slice_get view place ≡ None → None ≡ key_in m ordinals side view place doc
  unfolding key_in
  key_in_absent none = sym (ap (key_of_doc m ordinals side place doc) none)

  pub key_in_past : (entry : EntryState) → slice_get view place ≡ Some entry → entry.columns.documents ≤ doc → None ≡ key_in m ordinals side view place doc
  unfolding key_in
  key_in_past entry at past = sym (ap (key_of_doc m ordinals side place doc) at ∙ rw (not_below doc entry.columns.documents past) refl)
    where
      not_below : (a b : ℕ) → b ≤ a → nat_lt a b ≡ false
      not_below a b past = grind (arith, nat_tests, past)

  pub key_in_there : (entry : EntryState) (root : ℕ) → slice_get view place ≡ Some entry → doc < entry.columns.documents → root ≡ root_of (root_flags entry.columns.scopes) doc → key_at m ordinals side entry.columns place root ≡ key_in m ordinals side view place doc
  unfolding key_in
  key_in_there entry root at low is =
      ap (key_at m ordinals side entry.columns place) is
      ∙ sym (ap (key_of_doc m ordinals side place doc) at ∙ rw (below doc entry.columns.documents low) refl)
    where
      below : (a b : ℕ) → a < b → nat_lt a b ≡ true
      below a b low = grind (arith, nat_tests, low)

pub ruleset keying = (key_in_absent, key_in_past, key_in_there)

-- the hits of the entry at a place
pub range_at : (place : ℕ) (all : Seq (Seq (Option ℕ))) (own : Seq (Option ℕ)) (len : ℕ) (hits : Seq Hit) → place < length all → own ≡ get_or all place own → len ≡ length own → hits ≡ hits_between place 0 len own → hits ≡ hits_from place 0 (get_or all place [])
range_at place all own len hits low at long is =
    is ∙ ap (λ (n : ℕ). hits_between place 0 n own) long ∙ whole_range place own ∙ ap (hits_from place 0) (at ∙ get_or_default all place own [] low)

pub place_low : (view : Seq EntryState) (scores : Seq (Seq (Option ℕ))) (place : ℕ) → AreLong view scores → place < length view → place < length scores
place_low view scores place long low = let e = long_view view scores long in omega (arith, e, low)

pub ruleset gathering = (kin_cons, kin_more, kin_all, whole_range, place_low)
