-- Pages, one behind the other, are the full list.
use Rattle.std.proofs.Common.{◌≡◌, ℕ, zero, suc, ◌<◌, ◌≤◌, ◌⊎◌, inl, inr, Bool, true, false, List, [], ◌∷◌, ◌++◌, map, filter, take, drop, get_or, length, length-take, length-drop, refl, sym, ap, ◌∙◌, arith}
use Rattle.std.specs.Prelude.{Option, Some, None, AllPairs}
use Rattle.std.specs.List.{flat_map, last_or}
use Rattle.std.proofs.lemmas.Bool.{false≢true, cases_order}
use Rattle.tree_objects.specs.declared.field_value.FieldValue.{FieldValue}
use Rattle.query_ast.specs.Compare.{each_once, in_order}
use Rattle.composite_aggs.specs.Composite.{Keyed, key_order, is_lower, is_same_key, keyed, keys_shown, full_list, is_behind, page_behind, last_key}
use Rattle.composite_aggs.specs.Walk.{IsWalk, joined}
use Rattle.query_ast.proofs.Keys.{Ascend, keys_ascend, less_on, less_once}
use Rattle.query_ast.proofs.Elements.{Each, by_test}
use Rattle.composite_aggs.proofs.Lists.{nothing_more}
use Rattle.composite_aggs.proofs.Steps.{all_taken}
use Rattle.composite_aggs.proofs.Values.{key_total, key_exact}

abbrev Key : Type 0
Key = List FieldValue

module _ {A : Type 0} where
  -- strictly ascending by key
  abbrev Rise : List (Keyed A) → Type 0
  Rise [] = Unit {0}
  Rise (b ∷ bs) = Each (λ (c : Keyed A). is_lower b.key c.key ≡ true) bs × Rise bs

  each_left : (P : Keyed A → Type 0) (t : Keyed A → Bool) (bs : List (Keyed A)) → Each P bs → Each P (filter t bs)
  each_left P t [] h = tt
  each_left P t (b ∷ bs) h =
      by_test (t b) (λ held. rw held (h.0, each_left P t bs h.1)) (λ failed. rw failed (each_left P t bs h.1))

  rise_left : (t : Keyed A → Bool) (bs : List (Keyed A)) → Rise bs → Rise (filter t bs)
  rise_left t [] h = tt
  rise_left t (b ∷ bs) h =
      by_test (t b)
      (λ held. rw held (each_left (λ c. is_lower b.key c.key ≡ true) t bs h.0, rise_left t bs h.1))
      (λ failed. rw failed (rise_left t bs h.1))

  kept_all : (t : Keyed A → Bool) (bs : List (Keyed A)) → Each (λ c. t c ≡ true) bs → filter t bs ≡ bs
  kept_all t [] h = refl
  kept_all t (b ∷ bs) h = rw (h.0) (ap (λ l. b ∷ l) (kept_all t bs h.1))

  -- what is behind the last of some is what comes after them
  behind_last : (n : ℕ) (b : Keyed A) (bs : List (Keyed A)) → Rise (b ∷ bs) → n < length (b ∷ bs) → (d : Keyed A) → filter (is_behind (Some ((get_or (b ∷ bs) n d).key))) (b ∷ bs) ≡ drop (suc n) (b ∷ bs)
  behind_last zero b bs h long d =
      rw (itself b.key) (kept_all (is_behind (Some b.key)) bs h.0)
    where
      itself : (k : Key) → is_lower k k ≡ false
      itself k = by_test (is_lower k k) (λ held. absurd (false≢true (sym (less_once key_order key_total key_exact k k held) ∙ held))) (λ failed. failed)
  behind_last (suc n) b [] h long d = absurd (omega arith)
  behind_last (suc n) b (c ∷ bs) h long d =
      let far : is_lower b.key (get_or (c ∷ bs) n d).key ≡ true = at n (c ∷ bs) h.0 (omega arith) in
      rw (less_once key_order key_total key_exact b.key (get_or (c ∷ bs) n d).key far) (behind_last n c bs h.1 (omega arith) d)
    where
      at : (n : ℕ) (cs : List (Keyed A)) → Each (λ c. is_lower b.key c.key ≡ true) cs → n < length cs → is_lower b.key (get_or cs n d).key ≡ true
      at n [] h lt = absurd (omega arith)
      at zero (c ∷ cs) h lt = h.0
      at (suc n) (c ∷ cs) h lt = at n cs h.1 (omega arith)

  -- the last key of the first few
  last_is : (n : ℕ) (bs : List (Keyed A)) (d : Keyed A) (o : Option Key) → n < length bs → last_or o (map (λ (b : Keyed A). b.key) (take (suc n) bs)) ≡ Some ((get_or bs n d).key)
  last_is n [] d o h = absurd (omega arith)
  last_is zero (b ∷ bs) d o h = refl
  last_is (suc n) (b ∷ []) d o h = absurd (omega arith)
  last_is (suc n) (b ∷ c ∷ bs) d o h = last_is n (c ∷ bs) d (Some b.key) (omega arith)

  -- a test that holds of the rest looks no further than a test that holds of more
  left_twice : (t u : Keyed A → Bool) (bs : List (Keyed A)) → ((b : Keyed A) → t b ≡ true → u b ≡ true) → filter t bs ≡ filter t (filter u bs)
  left_twice t u [] h = refl
  left_twice t u (b ∷ bs) h =
      by_test (u b)
      (λ kept. rw kept (by_test (t b) (λ held. rw held (ap (λ l. b ∷ l) (left_twice t u bs h))) (λ failed. rw failed (left_twice t u bs h))))
      (λ cut. by_test (t b) (λ held. absurd (false≢true (sym cut ∙ h b held))) (λ failed. rw (cut, failed) (left_twice t u bs h)))

  passes : (t : Keyed A → Bool) (bs : List (Keyed A)) (n : ℕ) (d : Keyed A) → n < length (filter t bs) → t (get_or (filter t bs) n d) ≡ true
  passes t [] n d h = absurd (omega arith)
  passes t (b ∷ bs) zero d h =
      by_test (t b) (λ held. rw held held) (λ failed. let some : 0 < length (filter t bs) = rw failed at h in rw failed (passes t bs zero d some))
  passes t (b ∷ bs) (suc n) d h =
      by_test (t b)
      (λ held. let some : suc n < suc (length (filter t bs)) = rw held at h in rw held (passes t bs n d (omega arith)))
      (λ failed. let some : suc n < length (filter t bs) = rw failed at h in rw failed (passes t bs (suc n) d some))

  -- what is behind a bucket that is itself behind the key is behind the key
  further : (after : Option Key) (b c : Keyed A) → is_behind after b ≡ true → is_lower b.key c.key ≡ true → is_behind after c ≡ true
  further None b c h g = refl
  further (Some a) b c h g = less_on key_order key_total key_exact a b.key c.key h g

  -- the page after a full page
  next_behind : (after : Option Key) (n : ℕ) (full : List (Keyed A)) → Rise full → n < length (filter (is_behind after) full) → filter (is_behind (last_key (page_behind after (suc n) full))) full ≡ drop (suc n) (filter (is_behind after) full)
  next_behind after n full rise long = at (filter (is_behind after) full) refl
    where
      at : (rest : List (Keyed A)) → filter (is_behind after) full ≡ rest → filter (is_behind (last_key (page_behind after (suc n) full))) full ≡ drop (suc n) (filter (is_behind after) full)
      at [] e = absurd (omega (arith, ap length e))
      at (b ∷ bs) e =
          let in_rest : n < length (b ∷ bs) = rw e at long in
          let rises : Rise (b ∷ bs) = rw e at (rise_left (is_behind after) full rise) in
          let key = (get_or (b ∷ bs) n b).key in
          let own : is_behind after (get_or (b ∷ bs) n b) ≡ true = rw e at (passes (is_behind after) full n b long) in
          rw e (ap (λ (o : Option Key). filter (is_behind o) full) (last_is n (b ∷ bs) b None in_rest)
          ∙ left_twice (is_behind (Some key)) (is_behind after) full (λ c g. further after (get_or (b ∷ bs) n b) c own g)
          ∙ ap (filter (is_behind (Some key))) e
          ∙ behind_last n b bs rises in_rest b)

  both_parts : (n : ℕ) (xs : List (Keyed A)) → take n xs ++ drop n xs ≡ xs
  both_parts zero xs = refl
  both_parts (suc n) [] = refl
  both_parts (suc n) (x ∷ xs) = ap (λ l. x ∷ l) (both_parts n xs)

  -- a page that isn't full is all that is left
  short_page : (n : ℕ) (xs : List (Keyed A)) → length (take n xs) < n → take n xs ≡ xs
  short_page n xs h = all_taken n xs (omega (arith, length-take n xs))

  pub walk_is : (size : ℕ) (full : List (Keyed A)) → 0 < size → Rise full → (after : Option Key) (pages : List (List (Keyed A))) → IsWalk size full after pages → joined pages ≡ filter (is_behind after) full
  walk_is size full some rise after [] h = absurd h
  walk_is size full some rise after (page ∷ []) h =
      nothing_more page ∙ h.0 ∙ short_page size (filter (is_behind after) full) (rw (h.0) at h.1)
  walk_is zero full some rise after (page ∷ next ∷ more) h = absurd (omega arith)
  walk_is (suc n) full some rise after (page ∷ next ∷ more) h =
      let long : length (take (suc n) (filter (is_behind after) full)) ≡ suc n = rw (h.0) at h.1 in
      let enough : n < length (filter (is_behind after) full) = omega (arith, long, length-take (suc n) (filter (is_behind after) full)) in
      ap (λ l. page ++ l) (walk_is (suc n) full some rise (last_key page) (next ∷ more) h.2
      ∙ ap (λ l. filter (is_behind (last_key l)) full) h.0
      ∙ next_behind after n full rise enough)
      ∙ ap (λ l. l ++ drop (suc n) (filter (is_behind after) full)) h.0
      ∙ both_parts (suc n) (filter (is_behind after) full)

  -- there is a walk: what is left gets shorter
  pub walk_from : (fuel n : ℕ) (full : List (Keyed A)) → Rise full → (after : Option Key) → length (filter (is_behind after) full) < fuel → (pages : List (List (Keyed A))) × IsWalk (suc n) full after pages
  walk_from zero n full rise after h = absurd (omega arith)
  walk_from (suc fuel) n full rise after h =
      elim (cases_less (length (filter (is_behind after) full)) (suc n)) [
        | inl short ↦ (page_behind after (suc n) full ∷ [], (refl, omega (arith, length-take (suc n) (filter (is_behind after) full))))
        | inr long ↦
            let rest : filter (is_behind (last_key (page_behind after (suc n) full))) full ≡ drop (suc n) (filter (is_behind after) full) = next_behind after n full rise (omega arith) in
            let less_left : length (filter (is_behind (last_key (page_behind after (suc n) full))) full) < fuel = omega (arith, ap length rest, length-drop (suc n) (filter (is_behind after) full)) in
            let more = walk_from fuel n full rise (last_key (page_behind after (suc n) full)) less_left in
            put_first more.0 more.1 long
      ]
    where
      cases_less : (a b : ℕ) → (a < b) ⊎ (b ≤ a)
      cases_less a b = elim (cases_order a b) [ inl same ↦ inr (omega arith) | inr (inl less) ↦ inl less | inr (inr greater) ↦ inr (omega arith) ]

      put_first : (pages : List (List (Keyed A))) → IsWalk (suc n) full (last_key (page_behind after (suc n) full)) pages → suc n ≤ length (filter (is_behind after) full) → (all : List (List (Keyed A))) × IsWalk (suc n) full after all
      put_first [] walk long = absurd walk
      put_first (page ∷ pages) walk long =
          (page_behind after (suc n) full ∷ page ∷ pages, (refl, omega (arith, length-take (suc n) (filter (is_behind after) full)), walk))

module _ {A : Type 0} (keys : A → List Key) where
  each_keyed : (rows : List A) (x : Key) (xs : List Key) → Each (λ y. is_lower x y ≡ true) xs → Each (λ (c : Keyed A). is_lower x c.key ≡ true) (map (keyed keys rows) xs)
  each_keyed rows x [] h = tt
  each_keyed rows x (y ∷ ys) h = (h.0, each_keyed rows x ys h.1)

  keyed_rise : (rows : List A) (xs : List Key) → Ascend key_order key_total key_exact xs → Rise (map (keyed keys rows) xs)
  keyed_rise rows [] h = tt
  keyed_rise rows (x ∷ xs) h = (each_keyed rows x xs h.0, keyed_rise rows xs h.1)

  pub full_rises : (rows : List A) → Rise (full_list keys rows)
  unfolding full_list keys_shown
  full_rises rows = keyed_rise rows (in_order is_lower (each_once is_same_key (flat_map keys rows))) (keys_ascend key_order key_total key_exact (flat_map keys rows))

  all_behind : (bs : List (Keyed A)) → filter (is_behind None) bs ≡ bs
  all_behind [] = refl
  all_behind (b ∷ bs) = ap (λ l. b ∷ l) (all_behind bs)

  -- no page has fewer than no buckets
  no_walk : (full : List (Keyed A)) (after : Option Key) (pages : List (List (Keyed A))) → IsWalk 0 full after pages → ⊥
  no_walk full after [] h = h
  no_walk full after (page ∷ []) h = omega (arith, h.1)
  no_walk full after (page ∷ next ∷ more) h = no_walk full (last_key page) (next ∷ more) h.2

  pub whole : (rows : List A) (size : ℕ) (pages : List (List (Keyed A))) → IsWalk size (full_list keys rows) None pages → joined pages ≡ full_list keys rows
  whole rows zero pages h = absurd (no_walk (full_list keys rows) None pages h)
  whole rows (suc n) pages h = walk_is (suc n) (full_list keys rows) (omega arith) (full_rises rows) None pages h ∙ all_behind (full_list keys rows)

  pub ends : (rows : List A) (size : ℕ) → 0 < size → (pages : List (List (Keyed A))) × IsWalk size (full_list keys rows) None pages
  ends rows zero h = absurd (omega arith)
  ends rows (suc n) h = walk_from (suc (length (filter (is_behind {A = A} None) (full_list keys rows)))) n (full_list keys rows) (full_rises rows) None (omega arith)

  pairs : (bs : List (Keyed A)) → Rise bs → AllPairs (λ a b. is_lower a.key b.key ≡ true) bs
  pairs [] h i j d lt long = absurd (omega arith)
  pairs (b ∷ bs) h i zero d lt long = absurd (omega arith)
  pairs (b ∷ bs) h zero (suc j) d lt long = at bs h.0 j (omega arith)
    where
      at : (cs : List (Keyed A)) → Each (λ c. is_lower b.key c.key ≡ true) cs → (n : ℕ) → n < length cs → is_lower b.key (get_or cs n d).key ≡ true
      at [] h n lt = absurd (omega arith)
      at (c ∷ cs) h zero lt = h.0
      at (c ∷ cs) h (suc n) lt = at cs h.1 n (omega arith)
  pairs (b ∷ bs) h (suc i) (suc j) d lt long = pairs bs h.1 i j d (omega arith) (omega arith)

  pub once : (rows : List A) → AllPairs (λ a b. is_lower a.key b.key ≡ true) (full_list keys rows)
  once rows = pairs (full_list keys rows) (full_rises rows)
