-- Hits of one key among hits in the order of their keys.
use Rattle.std.proofs.Common.{◌≡◌, ℕ, zero, suc, ◌+◌, ◌<◌, ◌≤◌, ◌==◌, List as Seq, [], ◌∷◌, ◌++◌, length, map, filter, get_or, drop, Bool, true, false, cond, not, ltb, ◌&&◌, ◌⊎◌, inl, inr, refl, sym, ap, ◌∙◌, arith, append_assoc}
use Rattle.std.proofs.lemmas.Bool.{cases_lt}
use Rattle.std.proofs.lemmas.Bool.Decides.{nat_tests}
use Rattle.std.proofs.lemmas.List.{append-nil, drop_all, drop_more, get_or-drop}
use Rattle.std.specs.List.Sorted.{IsStableByKey, ties}
use Rattle.std.specs.Ordering.{is_lt, nat_cmp}
use Rattle.inner_hits.specs.Kinship.{IsInKeyOrder, has_key, hit_of, key_of}
use Rattle.inner_hits.specs.declared.joined.Kin.{Kin}
use Rattle.view_objects.specs.declared.hit.Hit.{Hit}

none_of_key : (key : ℕ) (kin : Seq Kin) (d : Kin) → ((j : ℕ) → j < length kin → (key_of (get_or kin j d) == key) ≡ false) → filter (has_key key) kin ≡ []
none_of_key key [] d other = refl
none_of_key key (k ∷ kin) d other = rw (other 0 (omega arith)) (none_of_key key kin d (λ j low. other (suc j) (omega (arith, low))))

past_within : {A : Type 0} (k j : ℕ) (xs : Seq A) → j < length (drop k xs) → k + j < length xs
past_within zero j xs low = omega (arith, low)
past_within (suc k) j [] low = absurd (omega (arith, low))
past_within (suc k) j (x ∷ xs) low = let more : k + j < length xs = past_within k j xs low in omega (arith, more)

-- behind a greater key there is none of this one
pub none_behind : (kin : Seq Kin) (key at : ℕ) (d : Kin) → IsInKeyOrder kin → key < key_of (get_or kin at d) → at < length kin → filter (has_key key) (drop at kin) ≡ []
none_behind kin key at d sorted greater low =
    none_of_key key (drop at kin) d
    (λ j within.
    let far : at + j < length kin = past_within at j kin within in
    let up : key_of (get_or kin at d) ≤ key_of (get_or kin (at + j) d) = sorted at (at + j) d (omega arith) far in
    ap (λ (k : Kin). key_of k == key) (get_or-drop at kin j d) ∙ apart (key_of (get_or kin (at + j) d)) key (omega (arith, greater, up)))
  where
    apart : (a b : ℕ) → b < a → (a == b) ≡ false
    apart a b less = grind (arith, less)

-- nor among those before the place where such keys begin
pub none_ahead : (kin : Seq Kin) (key start : ℕ) → ((j : ℕ) (d : Kin) → j < start → j < length kin → key_of (get_or kin j d) < key) → filter (has_key key) (drop start kin) ≡ filter (has_key key) kin
none_ahead kin key zero less = refl
none_ahead [] key (suc start) less = refl
none_ahead (k ∷ kin) key (suc start) less =
    let no : (key_of k == key) ≡ false = apart (key_of k) key (less 0 k (omega arith) (omega arith)) in
    rw no (none_ahead kin key start (λ j d low within. less (suc j) d (omega (arith, low)) (omega (arith, within))))
  where
    apart : (a b : ℕ) → a < b → (a == b) ≡ false
    apart a b low = grind (arith, low)

-- one hit more of the key
pub one_more : (kin : Seq Kin) (key at : ℕ) (d : Kin) (had all : Seq Hit) → at < length kin → key_of (get_or kin at d) ≡ key → had ++ map hit_of (filter (has_key key) (drop at kin)) ≡ all
    → (had ++ (hit_of (get_or kin at d) ∷ [])) ++ map hit_of (filter (has_key key) (drop (at + 1) kin)) ≡ all
one_more kin key at d had all low is goes =
    let test : (key_of (get_or kin at d) == key) ≡ true = same (key_of (get_or kin at d)) key is in
    let first : filter (has_key key) (drop at kin) ≡ get_or kin at d ∷ filter (has_key key) (drop (at + 1) kin) = rw (drop_more kin at d low) (rw test refl) in
    append_assoc had (hit_of (get_or kin at d) ∷ []) (map hit_of (filter (has_key key) (drop (at + 1) kin)))
    ∙ ap (λ (l : Seq Kin). had ++ map hit_of l) (sym first)
    ∙ goes
  where
    same : (a b : ℕ) → a ≡ b → (a == b) ≡ true
    same a b e = grind arith

-- ---- hits sorted by their keys

abbrev lt : Kin → Kin → Bool
lt a b = is_lt (nat_cmp (key_of a) (key_of b))

abbrev of_key : ℕ → Kin
of_key k = record { key = k; hit = record { place = 0; doc = 0; score = 0 } }

ties_are : (key : ℕ) (k : Kin) → ties lt (of_key key) k ≡ has_key key k
ties_are key k = by key (key_of k)
  where
    by : (a b : ℕ) → (not (is_lt (nat_cmp a b)) && not (is_lt (nat_cmp b a))) ≡ (b == a)
    by a b = grind (arith, nat_tests)

same_filter : (p q : Kin → Bool) → ((k : Kin) → p k ≡ q k) → (xs : Seq Kin) → filter p xs ≡ filter q xs
same_filter p q same [] = refl
same_filter p q same (x ∷ xs) = rw (same x) (ap (λ (l : Seq Kin). cond (q x) (x ∷ l) l) (same_filter p q same xs))

-- those of one key stand as they stood
pub stays : (xs ys : Seq Kin) → IsStableByKey key_of nat_cmp xs ys → (key : ℕ) → filter (has_key key) ys ≡ filter (has_key key) xs
stays xs ys stable key =
    sym (same_filter (ties lt (of_key key)) (has_key key) (ties_are key) ys)
    ∙ stable (of_key key)
    ∙ same_filter (ties lt (of_key key)) (has_key key) (ties_are key) xs

pub low_true : (a b : ℕ) → ltb a b ≡ true → a < b
low_true a b h = grind (arith, nat_tests)

pub low_false : (a b : ℕ) → ltb a b ≡ false → b ≤ a
low_false a b h = grind (arith, nat_tests)

-- no more of the key
pub done_at : (kin : Seq Kin) (key at : ℕ) (d : Kin) (had all : Seq Hit) → IsInKeyOrder kin → key ≤ key_of (get_or kin at d) → (key_of (get_or kin at d) ≡ key → ⊥) → at < length kin → had ++ map hit_of (filter (has_key key) (drop at kin)) ≡ all → had ≡ all
done_at kin key at d had all sorted up other low goes =
    let greater : key < key_of (get_or kin at d) = above key (key_of (get_or kin at d)) up other in
    sym (append-nil had) ∙ ap (λ (l : Seq Kin). had ++ map hit_of l) (sym (none_behind kin key at d sorted greater low)) ∙ goes
  where
    above : (a b : ℕ) → a ≤ b → (b ≡ a → ⊥) → a < b
    above a b up other = by (cases_lt a b)
      where
        by : (a < b) ⊎ (b ≤ a) → a < b
        by (inl less) = less
        by (inr back) = absurd (other (omega (arith, up, back)))

pub done_all : (kin : Seq Kin) (key at : ℕ) (had all : Seq Hit) → length kin ≤ at → had ++ map hit_of (filter (has_key key) (drop at kin)) ≡ all → had ≡ all
done_all kin key at had all past goes = sym (append-nil had) ∙ ap (λ (l : Seq Kin). had ++ map hit_of (filter (has_key key) l)) (sym (drop_all at kin past)) ∙ goes
