-- Documents with scores in a range.
use Rattle.std.proofs.Common.{◌≡◌, ℕ, zero, suc, ◌+◌, ◌-◌, ◌<◌, ◌≤◌, List as Seq, [], ◌∷◌, ◌++◌, get_or, take, drop, Bool, true, false, Option, Some, None, is_some, refl, sym, ap, ◌∙◌, arith, append_assoc}
use Rattle.std.proofs.lemmas.List.Elements.{All-push, All-same}
use Rattle.std.proofs.lemmas.Option.{same_Some}
use Rattle.std.specs.List.{All, flat_map, position_from}
use Rattle.std.specs.Option.{option_to_list}
use Rattle.block_bits.specs.Places.{next_place}
use Rattle.block_join.specs.Scores.{between}
use Rattle.nested_sort.specs.Listed.{IsCapped}
use Rattle.view_objects.specs.declared.hit.Hit.{Hit}
use Rattle.view_objects.specs.Hits.{hits_between, hits_from}

-- ---- lists

drop_take : {A : Type 0} (from end : ℕ) (xs : Seq A) → drop from (take end xs) ≡ take (end - from) (drop from xs)
drop_take zero end xs = let e : end - 0 ≡ end = omega arith in rw e refl
drop_take (suc from) zero xs = let e : 0 - suc from ≡ 0 = omega arith in rw e refl
drop_take (suc from) (suc end) [] = none (suc end - suc from)
  where
    none : {A : Type 0} (k : ℕ) → (let nil : Seq A = [] in nil ≡ take k nil)
    none zero = refl
    none (suc k) = refl
drop_take (suc from) (suc end) (x ∷ xs) = let e : suc end - suc from ≡ end - from = omega arith in rw e (drop_take from end xs)

drop_further : {A : Type 0} (j k : ℕ) (xs : Seq A) → drop j (drop k xs) ≡ drop (k + j) xs
drop_further j zero xs = let e : 0 + j ≡ j = omega arith in rw e refl
drop_further zero (suc k) [] = let e : suc k + 0 ≡ suc (k + 0) = omega arith in rw e refl
drop_further (suc j) (suc k) [] = let e : suc k + suc j ≡ suc (k + suc j) = omega arith in rw e refl
drop_further j (suc k) (x ∷ xs) = let e : suc k + j ≡ suc (k + j) = omega arith in rw e (drop_further j k xs)

pub get_at : {A : Type 0} (k j : ℕ) (xs : Seq A) (d : A) → get_or (drop k xs) j d ≡ get_or xs (k + j) d
get_at zero j xs d = let e : 0 + j ≡ j = omega arith in rw e refl
get_at (suc k) j [] d = refl
get_at (suc k) j (x ∷ xs) d = let e : suc k + j ≡ suc (k + j) = omega arith in rw e (get_at k j xs d)

-- ---- the next document with a score

by_test : {G : Type 0} (t : Bool) → (t ≡ true → G) → (t ≡ false → G) → G
by_test true held failed = held refl
by_test false held failed = failed refl

behind : {X : Type 0} (test : X → Bool) (k : ℕ) (xs : Seq X) (p : ℕ) → position_from test k xs ≡ Some p → k ≤ p
behind test k [] p is = absurd (let no : ⊥ = cc in no)
behind test k (x ∷ xs) p is =
    by_test (test x)
    (λ held. let e : Some k ≡ Some p = rw held at is in omega (arith, same_Some k p e))
    (λ failed. let e : position_from test (k + 1) xs ≡ Some p = rw failed at is in omega (arith, behind test (k + 1) xs p e))

module _ (place : ℕ) where
  first_from : (k n : ℕ) (xs : Seq (Option ℕ)) (p s : ℕ) → position_from is_some k xs ≡ Some p → p < k + n → get_or xs (p - k) None ≡ Some s
      → hits_from place k (take n xs) ≡ record { place = place; doc = p; score = s } ∷ hits_from place (p + 1) (take (k + n - (p + 1)) (drop (p + 1 - k) xs))
  first_from k n [] p s is low own = absurd (let no : ⊥ = cc in no)
  first_from k zero (x ∷ xs) p s is low own = absurd (omega (arith, low, behind is_some k (x ∷ xs) p is))
  first_from k (suc n) (Some t ∷ xs) p s is low own =
      let here : k ≡ p = same_Some k p is in
      let none : p - k ≡ 0 = omega (arith, here) in
      let score : Some t ≡ Some s = rw none at own in
      let left : k + suc n - (p + 1) ≡ n = omega (arith, here) in
      let one : p + 1 - k ≡ 1 = omega (arith, here) in
      rw (left, one) (ap (λ (d : ℕ). record { place = place; doc = d; score = t } ∷ hits_from place (d + 1) (take n xs)) here ∙ ap (λ (u : ℕ). record { place = place; doc = p; score = u } ∷ hits_from place (p + 1) (take n xs)) (same_Some t s score))
  first_from k (suc n) (None ∷ xs) p s is low own =
      let further : k + 1 ≤ p = behind is_some (k + 1) xs p is in
      let skip : p - k ≡ suc (p - (k + 1)) = omega (arith, further) in
      let over : p + 1 - k ≡ suc (p + 1 - (k + 1)) = omega (arith, further) in
      let left : k + suc n - (p + 1) ≡ k + 1 + n - (p + 1) = omega arith in
      rw (over, left) (first_from (k + 1) n xs p s is (omega (arith, low)) (rw skip at own))

  first_hit : (from end : ℕ) (scores : Seq (Option ℕ)) (p s : ℕ) → next_place is_some from scores ≡ Some p → p < end → get_or scores p None ≡ Some s
      → hits_between place from end scores ≡ record { place = place; doc = p; score = s } ∷ hits_between place (p + 1) end scores
  first_hit from end scores p s is low own =
      let far : from ≤ p = behind is_some from (drop from scores) p is in
      let to : from + (p - from) ≡ p = omega (arith, far) in
      let on : from + (p + 1 - from) ≡ p + 1 = omega (arith, far) in
      let left : from + (end - from) - (p + 1) ≡ end - (p + 1) = omega (arith, far, low) in
      ap (hits_from place from) (drop_take from end scores)
      ∙ first_from from (end - from) (drop from scores) p s is (omega (arith, far, low)) (get_at from (p - from) scores None ∙ ap (λ k. get_or scores k None) to ∙ own)
      ∙ ap (λ (l : Seq (Option ℕ)). record { place = place; doc = p; score = s } ∷ hits_from place (p + 1) l)
      (ap (λ k. take k (drop (p + 1 - from) (drop from scores))) left
      ∙ ap (take (end - (p + 1))) (drop_further (p + 1 - from) from scores ∙ ap (λ k. drop k scores) on)
      ∙ sym (drop_take (p + 1) end scores))

  -- the first score that is told is that of the next document
  told_from : (k n : ℕ) (xs : Seq (Option ℕ)) (p s : ℕ) (rest : Seq ℕ) → position_from is_some k xs ≡ Some p → flat_map option_to_list (take n xs) ≡ s ∷ rest → get_or xs (p - k) None ≡ Some s
  told_from k n [] p s rest is told = absurd (let no : ⊥ = cc in no)
  told_from k zero (x ∷ xs) p s rest is told = absurd (let no : ⊥ = cc in no)
  told_from k (suc n) (Some t ∷ xs) p s rest is told =
      let none : p - k ≡ 0 = omega (arith, same_Some k p is) in
      let own : t ≡ s = cc in
      rw none (ap Some own)
  told_from k (suc n) (None ∷ xs) p s rest is told =
      let further : k + 1 ≤ p = behind is_some (k + 1) xs p is in
      let skip : p - k ≡ suc (p - (k + 1)) = omega (arith, further) in
      rw skip (told_from (k + 1) n xs p s rest is told)

  pub first_told : (from end new doc : ℕ) (scores : Seq (Option ℕ)) (s : ℕ) (rest : Seq ℕ) → next_place is_some from scores ≡ Some (new - 1) → doc ≡ new - 1 → from < new → new ≤ end → between scores from end ≡ s ∷ rest
      → hits_between place from end scores ≡ record { place = place; doc = doc; score = s } ∷ hits_between place new end scores
  first_told from end new doc scores s rest is last later low told =
      let next : next_place is_some from scores ≡ Some doc = is ∙ ap Some (sym last) in
      let to : from + (doc - from) ≡ doc = omega (arith, last, later) in
      let own : get_or scores doc None ≡ Some s =
      ap (λ k. get_or scores k None) (sym to) ∙ sym (get_at from (doc - from) scores None) ∙ told_from from (end - from) (drop from scores) doc s rest next told in
      let on : doc + 1 ≡ new = omega (arith, last, later) in
      first_hit from end scores doc s next (omega (arith, last, later, low)) own
      ∙ ap (λ k. record { place = place; doc = doc; score = s } ∷ hits_between place k end scores) on

  -- where none is told there is none
  none_of : (k : ℕ) (xs : Seq (Option ℕ)) → flat_map option_to_list xs ≡ [] → hits_from place k xs ≡ []
  none_of k [] told = refl
  none_of k (Some t ∷ xs) told = absurd (let no : ⊥ = cc in no)
  none_of k (None ∷ xs) told = none_of (k + 1) xs told

  pub none_told : (from end : ℕ) (scores : Seq (Option ℕ)) → between scores from end ≡ [] → hits_between place from end scores ≡ []
  none_told from end scores told = ap (hits_from place from) (drop_take from end scores) ∙ none_of from (take (end - from) (drop from scores)) told

-- ---- hits that are added

pub hits_push : (had new all : Seq Hit) (hit : Hit) (rest more : Seq Hit) → new ≡ had ++ hit ∷ [] → rest ≡ hit ∷ more → had ++ rest ≡ all → new ++ more ≡ all
hits_push had new all hit rest more is first goes = ap (λ l. l ++ more) is ∙ append_assoc had (hit ∷ []) more ∙ ap (λ l. had ++ l) (sym first) ∙ goes

pub capped_on : (first xs new : Seq Hit) (x : Hit) → (All IsCapped first → All IsCapped xs) → IsCapped x → new ≡ xs ++ x ∷ [] → All IsCapped first → All IsCapped new
capped_on first xs new x on own is all = All-same IsCapped new (xs ++ x ∷ []) is (All-push IsCapped xs x (on all) own)
