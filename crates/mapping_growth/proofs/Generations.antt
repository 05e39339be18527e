-- What bodies add has their numbers, so that what the first of them say stands in front.
use Rattle.std.proofs.Common.{◌≡◌, ℕ, zero, suc, ◌+◌, ◌-◌, ◌<◌, ◌≤◌, inl, inr, List as Seq, [], ◌∷◌, ◌++◌, map, filter, not, length, take, append-nil, append_assoc, refl, sym, ap, ◌∙◌, subst, arith, Bool, true, false, leb, get_or}
use Rattle.std.proofs.lemmas.Bool.{cases_lt, false≢true}
use Rattle.std.proofs.lemmas.Bool.Decides.{nat_tests}
use Rattle.std.specs.List.{AllByRecursion, AllWithin}
use Rattle.std.specs.List.Sorted.{IsPartitionPoint, IsPartitionedBy}
use Rattle.tree_json.specs.Value.{JsonValue}
use Rattle.mapping_body.specs.Body.{Property, properties_of}
use Rattle.mapping_body.specs.Names.{in_byte_order, is_among, put, put_all}
use Rattle.mapping_body.specs.Pairs.{Pair, pairs_of}
use Rattle.mapping_body.proofs.Ranks.{by_ordering, compared}
use Rattle.mapping_body.proofs.Walks.{split}
use Rattle.mapping_growth.specs.Fields.{Draft, draft_of, draft_paths, drafts_added, drafts_from, drafts_of}
use Rattle.mapping_growth.specs.declared.relation.Relation.{Relation as Tied}
use Rattle.mapping_growth.specs.Kept.{relation_of}
use Rattle.mapping_growth.specs.Relations.{Relation, names_added, relation_by, relation_names, relations_added, relations_from, relations_of}

pub filter_all : {A : Type 0} (P : A → Type 0) (t : A → Bool) (xs : Seq A) → AllByRecursion P xs → AllByRecursion P (filter t xs)
filter_all P t [] all = tt
filter_all P t (x ∷ xs) all =
    split (t x)
    (λ held. rw held (all.0, filter_all P t xs all.1))
    (λ failed. rw failed (filter_all P t xs all.1))

abbrev pub AllOf : ℕ → Seq Draft → Type 0
AllOf g ds = AllByRecursion (λ (d : Draft). d.since ≡ g) ds

map_of : (g : ℕ) (ps : Seq Property) → AllOf g (map (draft_of g) ps)
map_of g [] = tt
map_of g (p ∷ ps) = (refl, map_of g ps)

put_of : (g : ℕ) (x : Draft) (ys : Seq Draft) → x.since ≡ g → AllOf g ys → AllOf g (put (λ d. d.path) x ys)
put_of g x [] first all = (first, tt)
put_of g x (y ∷ ys) first all =
    by_ordering (compared y.path x.path)
    (λ less. rw less (all.0, put_of g x ys first all.1))
    (λ equal. rw equal all)
    (λ greater. rw greater (first, all))

put_all_of : (g : ℕ) (ys xs : Seq Draft) → AllOf g ys → AllOf g xs → AllOf g (put_all (λ d. d.path) ys xs)
put_all_of g ys [] one two = one
put_all_of g ys (x ∷ xs) one two = put_all_of g (put (λ d. d.path) x ys) xs (put_of g x ys two.0 one) two.1

pub added_of : (g : ℕ) (known : Seq (Seq ℕ)) (v : JsonValue) → AllOf g (drafts_added g known v)
added_of g known v =
    filter_all (λ (d : Draft). d.since ≡ g) (λ d. not (is_among known d.path)) (in_byte_order (λ d. d.path) (map (draft_of g) (properties_of v))) (put_all_of g [] (map (draft_of g) (properties_of v)) tt (map_of g (properties_of v)))

named_of : (g : ℕ) (ps : Seq Pair) (names ns : Seq (Seq ℕ)) → AllByRecursion (λ (r : Relation). r.since ≡ g) (map (relation_by g ps names) ns)
named_of g ps names [] = tt
named_of g ps names (n ∷ ns) = (refl, named_of g ps names ns)

take_none : {T : Type 0} (n : ℕ) (xs : Seq T) → xs ≡ [] → take n xs ≡ []
take_none zero [] e = refl
take_none (suc n) [] e = refl
take_none n (x ∷ xs) e = cc

-- ---- what the first bodies say, and what later ones add

module _ {T : Type 0} (since : T → ℕ) where
  abbrev pub AllUpTo : ℕ → Seq T → Type 0
  AllUpTo g xs = AllByRecursion (λ (x : T). since x ≤ g) xs

  abbrev pub AllPast : ℕ → Seq T → Type 0
  AllPast g xs = AllByRecursion (λ (x : T). g < since x) xs

  pub record Parted (g : ℕ) (low all : Seq T) : Type 0 where
    pub rest : Seq T
    pub is : all ≡ low ++ rest
    pub upto : AllUpTo g low
    pub past : AllPast g rest

  both : (P : T → Type 0) (xs ys : Seq T) → AllByRecursion P xs → AllByRecursion P ys → AllByRecursion P (xs ++ ys)
  both P [] ys one two = two
  both P (x ∷ xs) ys one two = (one.0, both P xs ys one.1 two)

  all_upto : (g k : ℕ) (xs : Seq T) → k ≤ g → AllByRecursion (λ (x : T). since x ≡ k) xs → AllUpTo g xs
  all_upto g k [] h all = tt
  all_upto g k (x ∷ xs) h all = (omega (arith, all.0), all_upto g k xs h all.1)

  all_past : (g k : ℕ) (xs : Seq T) → g < k → AllByRecursion (λ (x : T). since x ≡ k) xs → AllPast g xs
  all_past g k [] h all = tt
  all_past g k (x ∷ xs) h all = (omega (arith, all.0), all_past g k xs h all.1)

  filter_both : (t : T → Bool) (xs ys : Seq T) → filter t (xs ++ ys) ≡ filter t xs ++ filter t ys
  filter_both t [] ys = refl
  filter_both t (x ∷ xs) ys =
      split (t x)
      (λ held. rw held (ap (λ (rest : Seq T). x ∷ rest) (filter_both t xs ys)))
      (λ failed. rw failed (filter_both t xs ys))

  -- those of which a test holds are parted as all are
  pub parted_filter : (t : T → Bool) (g : ℕ) (low all : Seq T) → Parted g low all → Parted g (filter t low) (filter t all)
  parted_filter t g low all parted = record {
    rest = filter t parted.rest;
    is = ap (filter t) parted.is ∙ filter_both t low parted.rest;
    upto = filter_all (λ (x : T). since x ≤ g) t low parted.upto;
    past = filter_all (λ (x : T). g < since x) t parted.rest parted.past;
  }

-- the place from which on all are past a generation, in a list that has the same generations
pub point_is : {A T : Type 0} (added : A → ℕ) (since : T → ℕ) (g i : ℕ) (xs : Seq A) (low rest : Seq T) → map added xs ≡ map since (low ++ rest) → AllUpTo since g low → AllPast since g rest
    → IsPartitionPoint (λ y. leb (added y) g ≡ true) (λ y. leb (added y) g ≡ false) xs i → i ≤ length xs → i ≡ length low
point_is added since g zero xs [] rest e upto past point within = refl
point_is added since g (suc i) [] low rest e upto past point within = absurd (omega arith)
point_is added since g (suc i) (x ∷ xs) [] [] e upto past point within = cc
point_is added since g (suc i) (x ∷ xs) [] (r ∷ rest) e upto past point within =
    let same : added x ≡ since r = cc in
    let met : leb (added x) g ≡ true = point.0 0 x (omega arith) (omega arith) in
    let beyond = past.0 in
    absurd (grind (arith, nat_tests))
point_is added since g zero [] (y ∷ low) rest e upto past point within = cc
point_is added since g zero (x ∷ xs) (y ∷ low) rest e upto past point within =
    let same : added x ≡ since y = cc in
    let failed : leb (added x) g ≡ false = point.1 0 x (omega arith) (omega arith) in
    let inside = upto.0 in
    absurd (grind (arith, nat_tests))
point_is added since g (suc i) (x ∷ xs) (y ∷ low) rest e upto past point within =
    let more : map added xs ≡ map since (low ++ rest) = cc in
    ap suc (point_is added since g i xs low rest more upto.1 past
    ((λ k d h less. point.0 (suc k) d (omega arith) (omega arith)), (λ k d h less. point.1 (suc k) d (omega arith) (omega arith)))
    (omega arith))

past_fails : {A T : Type 0} (added : A → ℕ) (since : T → ℕ) (g : ℕ) (xs : Seq A) (rest : Seq T) → map added xs ≡ map since rest → AllPast since g rest
    → (j : ℕ) (d : A) → j < length xs → leb (added (get_or xs j d)) g ≡ false
past_fails added since g [] rest e past j d h = absurd (omega arith)
past_fails added since g (x ∷ xs) [] e past j d h = cc
past_fails added since g (x ∷ xs) (r ∷ rest) e past zero d h =
    let same : added x ≡ since r = cc in
    let beyond = past.0 in
    grind (arith, nat_tests)
past_fails added since g (x ∷ xs) (r ∷ rest) e past (suc j) d h =
    let more : map added xs ≡ map since rest = cc in
    past_fails added since g xs rest more past.1 j d (omega arith)

pub upto_first : {A T : Type 0} (added : A → ℕ) (since : T → ℕ) (g : ℕ) (xs : Seq A) (low rest : Seq T) → map added xs ≡ map since (low ++ rest) → AllUpTo since g low → AllPast since g rest
    → IsPartitionedBy (λ y. leb (added y) g) xs
upto_first added since g [] low rest e upto past i j d h less is = absurd (omega arith)
upto_first added since g (x ∷ xs) [] rest e upto past i j d h less is =
    let fails = past_fails added since g (x ∷ xs) rest e past j d less in
    absurd (false≢true (sym fails ∙ is))
upto_first added since g (x ∷ xs) (y ∷ low) rest e upto past zero j d h less is =
    let same : added x ≡ since y = cc in
    let inside = upto.0 in
    grind (arith, nat_tests)
upto_first added since g (x ∷ xs) (y ∷ low) rest e upto past (suc i) zero d h less is = absurd (omega arith)
upto_first added since g (x ∷ xs) (y ∷ low) rest e upto past (suc i) (suc j) d h less is =
    let more : map added xs ≡ map since (low ++ rest) = cc in
    upto_first added since g xs low rest more upto.1 past i j d (omega arith) (omega arith) is

module _ {T : Type 0} (since : T → ℕ) (from : ℕ → Seq T → Seq JsonValue → Seq T) (step : ℕ → Seq T → JsonValue → Seq T)
    (none : (g : ℕ) (known : Seq T) → from g known [] ≡ known)
    (more : (g : ℕ) (known : Seq T) (b : JsonValue) (bs : Seq JsonValue) → from g known (b ∷ bs) ≡ from (g + 1) (known ++ step g known b) bs)
    (of : (g : ℕ) (known : Seq T) (b : JsonValue) → AllByRecursion (λ (x : T). since x ≡ g) (step g known b)) where
  -- all that bodies from a later one on add is past
  later : (g k : ℕ) (known front : Seq T) (bs : Seq JsonValue) → g < k → AllUpTo since g front → (added : Seq T) → AllPast since g added → known ≡ front ++ added → Parted since g front (from k known bs)
  later g k known front [] h upto added past e = record { rest = added; is = none k known ∙ e; upto = upto; past = past }
  later g k known front (b ∷ bs) h upto added past e =
      let found = later g (k + 1) (known ++ step k known b) front bs (omega arith) upto (added ++ step k known b)
      (both since (λ (x : T). g < since x) added (step k known b) past (all_past since g k (step k known b) h (of k known b)))
      (ap (λ (xs : Seq T). xs ++ step k known b) e ∙ append_assoc front added (step k known b)) in
      subst (λ (xs : Seq T). Parted since g front xs) (sym (more k known b bs)) found

  pub parted_from : (g k : ℕ) (known : Seq T) (bs : Seq JsonValue) → k ≤ g + 1 → AllUpTo since g known
      → Parted since g (from k known (take (g + 1 - k) bs)) (from k known bs)
  parted_from g k known [] h upto =
      rw (take_none (g + 1 - k) [] refl) (record { rest = []; is = sym (append-nil (from k known [])); upto = subst (λ (xs : Seq T). AllUpTo since g xs) (sym (none k known)) upto; past = tt })
  parted_from g k known (b ∷ bs) h upto =
      elim (cases_lt g k) [
        | inl past ↦
            let start : g + 1 - k ≡ 0 = omega arith in
            let found = later g k known known (b ∷ bs) past upto [] tt (sym (append-nil known)) in
            rw start (subst (λ (xs : Seq T). Parted since g xs (from k known (b ∷ bs))) (sym (none k known)) found)
        | inr before ↦
            let on : g + 1 - k ≡ suc (g + 1 - (k + 1)) = omega arith in
            let rest = parted_from g (k + 1) (known ++ step k known b) bs (omega arith)
            (both since (λ (x : T). since x ≤ g) known (step k known b) upto (all_upto since g k (step k known b) before (of k known b))) in
            rw on (subst (λ (xs : Seq T). Parted since g xs (from k known (b ∷ bs))) (sym (more k known b (take (g + 1 - (k + 1)) bs)))
            (subst (λ (xs : Seq T). Parted since g (from (k + 1) (known ++ step k known b) (take (g + 1 - (k + 1)) bs)) xs) (sym (more k known b bs)) rest))
      ]

-- ---- relations and fields

pub relations_parted : (g : ℕ) (bs : Seq JsonValue) → Parted (λ (r : Relation). r.since) g (relations_of (take g bs)) (relations_of bs)
unfolding relations_of
relations_parted g bs =
    let one : g + 1 - 1 ≡ g = omega arith in
    rw one at (parted_from {T = Relation} (λ (r : Relation). r.since) relations_from (λ k known b. relations_added k known (pairs_of b)) (λ k known. refl) (λ k known b cs. refl)
    (λ k known b. named_of k (pairs_of b) (relation_names known ++ names_added (relation_names known) (pairs_of b)) (names_added (relation_names known) (pairs_of b)))
    g 1 [] bs (omega arith) tt)

pub drafts_parted : (g : ℕ) (bs : Seq JsonValue) → Parted (λ (d : Draft). d.since) g (drafts_of (take g bs)) (drafts_of bs)
unfolding drafts_of
drafts_parted g bs =
    let one : g + 1 - 1 ≡ g = omega arith in
    rw one at (parted_from {T = Draft} (λ (d : Draft). d.since) drafts_from (λ k known b. drafts_added k (draft_paths known) b) (λ k known. refl) (λ k known b cs. refl)
    (λ k known b. added_of k (draft_paths known) b)
    g 1 [] bs (omega arith) tt)

sinces : (rs : Seq Tied) → map (λ r. r.since) rs ≡ map (λ r. r.since) (map relation_of rs)
sinces [] = refl
sinces (r ∷ rs) = ap (λ (ns : Seq ℕ). r.since ∷ ns) (sinces rs)

-- how many relations the first bodies say
pub first_relations : (g i : ℕ) (bs : Seq JsonValue) (rs : Seq Tied) → map relation_of rs ≡ relations_of bs
    → (IsPartitionedBy (λ r. leb r.since g) rs → IsPartitionPoint (λ r. leb r.since g ≡ true) (λ r. leb r.since g ≡ false) rs i) → i ≤ length rs → i ≡ length (relations_of (take g bs))
first_relations g i bs rs seen search_is within =
    let parted = relations_parted g bs in
    let e : map (λ r. r.since) rs ≡ map (λ r. r.since) (relations_of (take g bs) ++ parted.rest) = sinces rs ∙ ap (map (λ (r : Relation). r.since)) (seen ∙ parted.is) in
    point_is (λ (r : Tied). r.since) (λ (r : Relation). r.since) g i rs (relations_of (take g bs)) parted.rest e parted.upto parted.past
    (search_is (upto_first (λ (r : Tied). r.since) (λ (r : Relation). r.since) g rs (relations_of (take g bs)) parted.rest e parted.upto parted.past)) within
