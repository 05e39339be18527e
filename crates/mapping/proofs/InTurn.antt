-- The fields of bodies in turn: their paths differ, none stands behind one that it lies above, and generations rise.
use Rattle.std.proofs.Common.{◌≡◌, ℕ, ◌+◌, ◌<◌, ◌≤◌, inl, inr, List, [], ◌∷◌, ◌++◌, map, filter, not, length, refl, sym, ap, ◌∙◌, subst, arith, Bool, true, false, ◌||◌, bytes_eq, is_some, Less}
use Rattle.std.proofs.lemmas.Bool.{false≢true, or_cases}
use Rattle.std.proofs.lemmas.List.{map-append}
use Rattle.std.proofs.lemmas.List.Folds.{list_any-append}
use Rattle.std.proofs.lemmas.Slice.Eq.{bytes_eq-Decides}
use Rattle.std.specs.List.{AllByRecursion, list_all, position_from}
use Rattle.std.specs.List.Sorted.{IsStrictlySortedBy}
use Rattle.tree_json.specs.Value.{JsonValue}
use Rattle.mapping_body.specs.Body.{Property, is_body, properties_of}
use Rattle.mapping_growth.specs.Fields.{Draft, draft_of, draft_paths, drafts_added, drafts_from, drafts_of}
use Rattle.mapping_body.specs.Names.{AreAscending, in_byte_order, is_among, lies_above, put, put_all}
use Rattle.mapping_body.proofs.Ascending.{not_back, not_itself}
use Rattle.mapping_body.proofs.Closed.{IsClosed, closed_body, has_name}
use Rattle.mapping_growth.proofs.Generations.{AllOf, added_of, filter_all}
use Rattle.mapping_growth.proofs.Distinct.{AreOutside, added_ascend, added_outside}
use Rattle.mapping_body.proofs.Ranks.{same_name}
use Rattle.mapping_body.proofs.Ranks.{AllAfter, by_ordering, compared}
use Rattle.mapping_body.proofs.Walks.{split}
use Rattle.mapping.proofs.Above.{above_less, both}

-- one field before another
pub record StandsBefore (d e : Draft) : Type 0 where
  pub differs : d.path ≡ e.path → ⊥
  pub not_below : lies_above e.path d.path ≡ false
  pub rising : d.since ≤ e.since

abbrev pub AreInTurn : List Draft → Type 0
AreInTurn [] = Unit {0}
AreInTurn (d ∷ ds) = AllByRecursion (StandsBefore d) ds × AreInTurn ds

-- ---- a name among others, by recursion

not_has : (b : Bool) → (b ≡ true → ⊥) → b ≡ false
not_has true h = absurd (h refl)
not_has false h = refl

among_from : (name : List ℕ) (names : List (List ℕ)) (at : ℕ) → is_some (position_from (λ other. bytes_eq other name) at names) ≡ has_name names name
among_from name [] at = refl
among_from name (x ∷ names) at =
    split (bytes_eq x name)
    (λ same. rw same refl)
    (λ other. rw other (among_from name names (at + 1)))

among : (names : List (List ℕ)) (name : List ℕ) → is_among names name ≡ has_name names name
among names name = among_from name names 0

-- a name that differs from all
apart : (name : List ℕ) (known : List Draft) (d : Draft) → has_name (draft_paths (d ∷ known)) name ≡ false → (d.path ≡ name → ⊥) × (has_name (draft_paths known) name ≡ false)
apart name known d h =
    split (bytes_eq d.path name)
    (λ same. let met : true ≡ false = rw same at h in absurd (false≢true (sym met)))
    (λ other. (λ e. absurd (false≢true (sym other ∙ (bytes_eq-Decides d.path name).1 e)), rw other at h))

-- ---- elements put in byte order have the same names

or_true : (b : Bool) → (b || true) ≡ true
or_true true = refl
or_true false = refl

has_put : (name : List ℕ) (x : Draft) (ys : List Draft) → has_name (draft_paths (put (λ d. d.path) x ys)) name ≡ has_name (draft_paths (x ∷ ys)) name
has_put name x [] = refl
has_put name x (y ∷ ys) =
    by_ordering (compared y.path x.path)
    (λ less. rw (less, has_put name x ys) (elim (bytes_eq x.path name) as (λ t. (bytes_eq y.path name || (t || has_name (draft_paths ys) name)) ≡ (t || (bytes_eq y.path name || has_name (draft_paths ys) name))) [
      | true ↦ or_true (bytes_eq y.path name)
      | false ↦ refl
    ]))
    (λ equal. rw (equal, same_name y.path x.path equal) (elim (bytes_eq x.path name) as (λ t. (t || has_name (draft_paths ys) name) ≡ (t || (t || has_name (draft_paths ys) name))) [ true ↦ refl | false ↦ refl ]))
    (λ greater. rw greater refl)

has_put_all : (name : List ℕ) (ys xs : List Draft) → has_name (draft_paths (put_all (λ d. d.path) ys xs)) name ≡ (has_name (draft_paths xs) name || has_name (draft_paths ys) name)
has_put_all name ys [] = refl
has_put_all name ys (x ∷ xs) =
    has_put_all name (put (λ d. d.path) x ys) xs ∙ ap (λ (b : Bool). has_name (draft_paths xs) name || b) (has_put name x ys)
    ∙ elim (bytes_eq x.path name) as (λ t. (has_name (draft_paths xs) name || (t || has_name (draft_paths ys) name)) ≡ ((t || has_name (draft_paths xs) name) || has_name (draft_paths ys) name)) [
      | true ↦ or_true (has_name (draft_paths xs) name)
      | false ↦ refl
    ]

-- ---- what lies above a path stands among the known or the added

-- each field of a list has those above it among names
abbrev pub HaveAbove : List (List ℕ) → List Draft → Type 0
HaveAbove names ds = AllByRecursion (λ (d : Draft). (lies_above [] d.path ≡ true) × ((a : List ℕ) → lies_above [] a ≡ true → lies_above a d.path ≡ true → has_name names a ≡ true)) ds

nothing_over : (a : List ℕ) → lies_above a [] ≡ false
nothing_over [] = refl
nothing_over (b ∷ a) = refl

drafts_have : (g : ℕ) (names : List (List ℕ)) (ps : List Property) → AllByRecursion (IsClosed names []) ps → HaveAbove names (map (draft_of g) ps)
drafts_have g names [] all = tt
drafts_have g names (p ∷ ps) all = (
  (
    all.0.some,
    λ a some h. elim (all.0.above a h) [
      | inl same ↦ let never : false ≡ true = subst (λ (n : List ℕ). lies_above [] n ≡ true) same some in absurd (false≢true never)
      | inr rest ↦ elim rest [
        | inl over ↦ absurd (false≢true (sym (nothing_over a) ∙ over))
        | inr there ↦ there
      ]
    ],
  ),
  drafts_have g names ps all.1,
)

put_have : (names : List (List ℕ)) (x : Draft) (ys : List Draft) → HaveAbove names (x ∷ ys) → HaveAbove names (put (λ d. d.path) x ys)
put_have names x [] all = all
put_have names x (y ∷ ys) all =
    by_ordering (compared y.path x.path)
    (λ less. rw less (all.1.0, put_have names x ys (all.0, all.1.1)))
    (λ equal. rw equal all.1)
    (λ greater. rw greater all)

put_all_have : (names : List (List ℕ)) (ys xs : List Draft) → HaveAbove names ys → HaveAbove names xs → HaveAbove names (put_all (λ d. d.path) ys xs)
put_all_have names ys [] one two = one
put_all_have names ys (x ∷ xs) one two = put_all_have names (put (λ d. d.path) x ys) xs (put_have names x ys (two.0, one)) two.1

wider : (names more : List (List ℕ)) (ds : List Draft) → ((a : List ℕ) → has_name names a ≡ true → has_name more a ≡ true) → HaveAbove names ds → HaveAbove more ds
wider names more [] grows all = tt
wider names more (d ∷ ds) grows all = ((all.0.0, λ a some h. grows a (all.0.1 a some h)), wider names more ds grows all.1)

-- a name of the list is among others or passes
has_filter : (known : List (List ℕ)) (name : List ℕ) (ds : List Draft) → has_name (draft_paths ds) name ≡ true
    → (has_name known name || has_name (draft_paths (filter (λ d. not (is_among known d.path)) ds)) name) ≡ true
has_filter known name [] h = absurd (false≢true h)
has_filter known name (d ∷ ds) h =
    elim (or_cases (bytes_eq d.path name) (has_name (draft_paths ds) name) h) [
      | inl same ↦
          let is : d.path ≡ name = (bytes_eq-Decides d.path name).0 same in
          split (is_among known d.path)
          (λ known_is. rw (sym (among known name) ∙ ap (is_among known) (sym is) ∙ known_is) refl)
          (λ new. rw (new, same) (or_true (has_name known name)))
      | inr later ↦
          let rest = has_filter known name ds later in
          split (is_among known d.path)
          (λ known_is. rw known_is rest)
          (λ new. rw new (elim (or_cases (has_name known name) (has_name (draft_paths (filter (λ e. not (is_among known e.path)) ds)) name) rest) [
            | inl first ↦ rw first refl
            | inr second ↦ rw (second, or_true (bytes_eq d.path name)) (or_true (has_name known name))
          ]))
    ]

map_paths : (g : ℕ) (ps : List Property) → draft_paths (map (draft_of g) ps) ≡ map (λ p. p.path) ps
map_paths g [] = refl
map_paths g (p ∷ ps) = ap (λ (rest : List (List ℕ)). p.path ∷ rest) (map_paths g ps)

or_none : (b : Bool) → (b || false) ≡ b
or_none true = refl
or_none false = refl

-- the fields that a body adds have those above them among the known and themselves
added_have : (g : ℕ) (known : List Draft) (v : JsonValue) → is_body v ≡ true
    → HaveAbove (draft_paths (known ++ drafts_added g (draft_paths known) v)) (drafts_added g (draft_paths known) v)
added_have g known v is =
    let all : List Draft = in_byte_order (λ d. d.path) (map (draft_of g) (properties_of v)) in
    let closed : HaveAbove (map (λ p. p.path) (properties_of v)) (map (draft_of g) (properties_of v)) = drafts_have g (map (λ p. p.path) (properties_of v)) (properties_of v) (closed_body v is) in
    let sorted : HaveAbove (map (λ p. p.path) (properties_of v)) all = put_all_have (map (λ p. p.path) (properties_of v)) [] (map (draft_of g) (properties_of v)) tt closed in
    wider (map (λ p. p.path) (properties_of v)) (draft_paths (known ++ drafts_added g (draft_paths known) v)) (drafts_added g (draft_paths known) v)
    (λ a h.
    let there : has_name (draft_paths all) a ≡ true = has_put_all a [] (map (draft_of g) (properties_of v)) ∙ or_none (has_name (draft_paths (map (draft_of g) (properties_of v))) a) ∙ ap (λ (ns : List (List ℕ)). has_name ns a) (map_paths g (properties_of v)) ∙ h in
    ap (λ (ns : List (List ℕ)). has_name ns a) (map-append (λ d. d.path) known (drafts_added g (draft_paths known) v))
    ∙ list_any-append (λ other. bytes_eq other a) (draft_paths known) (draft_paths (drafts_added g (draft_paths known) v)) ∙ has_filter (draft_paths known) a all there)
    (filter_all (λ (d : Draft). (lies_above [] d.path ≡ true) × ((a : List ℕ) → lies_above [] a ≡ true → lies_above a d.path ≡ true → has_name (map (λ p. p.path) (properties_of v)) a ≡ true)) (λ d. not (is_among (draft_paths known) d.path)) all sorted)

-- ---- in turn

not_over : (one two : List ℕ) → compared one two ≡ Less → lies_above two one ≡ false
not_over one two less = not_has (lies_above two one) (λ over. not_back one two less (above_less two one over))

before_all : (g : ℕ) (d : Draft) (ds : List Draft) → d.since ≡ g → AllAfter d.path (draft_paths ds) → AllOf g ds → AllByRecursion (StandsBefore d) ds
before_all g d [] first after all = tt
before_all g d (e ∷ ds) first after all = (
  record {
    differs = λ same. not_itself e.path (subst (λ (n : List ℕ). compared n e.path ≡ Less) same after.0);
    not_below = not_over d.path e.path after.0;
    rising = omega (arith, first, all.0);
  },
  before_all g d ds first after.1 all.1,
)

ascending_in_turn : (g : ℕ) (ds : List Draft) → AreAscending (draft_paths ds) → AllOf g ds → AreInTurn ds
unfolding IsStrictlySortedBy
ascending_in_turn g [] up all = tt
ascending_in_turn g (d ∷ ds) up all = (before_all g d ds all.0 up.0 all.1, ascending_in_turn g ds up.1 all.1)

both_all : {A : Type 0} (P : A → Type 0) (xs ys : List A) → AllByRecursion P xs → AllByRecursion P ys → AllByRecursion P (xs ++ ys)
both_all P [] ys one two = two
both_all P (x ∷ xs) ys one two = (one.0, both_all P xs ys one.1 two)

in_turn_behind : (xs ys : List Draft) → AreInTurn xs → AreInTurn ys → AllByRecursion (λ (x : Draft). AllByRecursion (StandsBefore x) ys) xs → AreInTurn (xs ++ ys)
in_turn_behind [] ys one two all = two
in_turn_behind (x ∷ xs) ys one two all = (both_all (StandsBefore x) xs ys one.0 all.0, in_turn_behind xs ys one.1 two all.1)

-- fields of generations below one, in turn, with all that lies above them
pub record AreFounded (g : ℕ) (ds : List Draft) : Type 0 where
  pub turn : AreInTurn ds
  pub above : HaveAbove (draft_paths ds) ds
  pub before : AllByRecursion (λ (d : Draft). (0 < d.since) × (d.since < g)) ds

known_first : (g : ℕ) (known : List Draft) (x : Draft) (news : List Draft)
    → has_name (draft_paths known) x.path ≡ true → x.since < g → ((a : List ℕ) → lies_above [] a ≡ true → lies_above a x.path ≡ true → has_name (draft_paths known) a ≡ true)
    → AreOutside (draft_paths known) (draft_paths news) → AllByRecursion (λ (d : Draft). lies_above [] d.path ≡ true) news → AllOf g news → AllByRecursion (StandsBefore x) news
known_first g known x [] itself less above out some all = tt
known_first g known x (y ∷ news) itself less above out some all =
    let apart_y : has_name (draft_paths known) y.path ≡ false = sym (among (draft_paths known) y.path) ∙ out.0 in (
      record {
        differs = λ same. absurd (false≢true (sym apart_y ∙ ap (has_name (draft_paths known)) (sym same) ∙ itself));
        not_below = not_has (lies_above y.path x.path) (λ over. false≢true (sym apart_y ∙ above y.path some.0 over));
        rising = omega (arith, less, all.0);
      },
      known_first g known x news itself less above out.1 some.1 all.1,
    )

has_head : (name : List ℕ) (names : List (List ℕ)) → has_name (name ∷ names) name ≡ true
has_head name names = rw ((bytes_eq-Decides name name).1 refl) refl

has_tail : (other : List ℕ) (names : List (List ℕ)) (name : List ℕ) → has_name names name ≡ true → has_name (other ∷ names) name ≡ true
has_tail other names name h = rw h (or_true (bytes_eq other name))

have_themselves : (names : List (List ℕ)) (ds : List Draft) → ((a : List ℕ) → has_name (draft_paths ds) a ≡ true → has_name names a ≡ true) → AllByRecursion (λ (d : Draft). has_name names d.path ≡ true) ds
have_themselves names [] grows = tt
have_themselves names (d ∷ ds) grows =
    (grows d.path (has_head d.path (draft_paths ds)), have_themselves names ds (λ a h. grows a (has_tail d.path (draft_paths ds) a h)))

known_all : (g : ℕ) (known xs : List Draft) (news : List Draft) → AllByRecursion (λ (d : Draft). has_name (draft_paths known) d.path ≡ true) xs → AllByRecursion (λ (d : Draft). (0 < d.since) × (d.since < g)) xs → HaveAbove (draft_paths known) xs
    → AreOutside (draft_paths known) (draft_paths news) → AllByRecursion (λ (d : Draft). lies_above [] d.path ≡ true) news → AllOf g news → AllByRecursion (λ (x : Draft). AllByRecursion (StandsBefore x) news) xs
known_all g known [] news itself less above out some all = tt
known_all g known (x ∷ xs) news itself less above out some all =
    (known_first g known x news itself.0 less.0.1 above.0.1 out some all, known_all g known xs news itself.1 less.1 above.1 out some all)

some_of_above : (names : List (List ℕ)) (ds : List Draft) → HaveAbove names ds → AllByRecursion (λ (d : Draft). lies_above [] d.path ≡ true) ds
some_of_above names [] all = tt
some_of_above names (d ∷ ds) all = (all.0.0, some_of_above names ds all.1)

later_all : (g : ℕ) (ds : List Draft) → AllByRecursion (λ (d : Draft). (0 < d.since) × (d.since < g)) ds → AllByRecursion (λ (d : Draft). (0 < d.since) × (d.since < g + 1)) ds
later_all g [] all = tt
later_all g (d ∷ ds) all = ((all.0.0, omega (arith, all.0.1)), later_all g ds all.1)

now_all : (g : ℕ) (ds : List Draft) → 0 < g → AllOf g ds → AllByRecursion (λ (d : Draft). (0 < d.since) × (d.since < g + 1)) ds
now_all g [] h all = tt
now_all g (d ∷ ds) h all = ((omega (arith, all.0), omega (arith, all.0)), now_all g ds h all.1)

founded_more : (g : ℕ) (known : List Draft) (v : JsonValue) → 0 < g → is_body v ≡ true → AreFounded g known → AreFounded (g + 1) (known ++ drafts_added g (draft_paths known) v)
founded_more g known v positive is founded =
    let news : List Draft = drafts_added g (draft_paths known) v in
    let have : HaveAbove (draft_paths (known ++ drafts_added g (draft_paths known) v)) (drafts_added g (draft_paths known) v) = added_have g known v is in
    let of : AllOf g (drafts_added g (draft_paths known) v) = added_of g (draft_paths known) v in
    let wider_known : (a : List ℕ) → has_name (draft_paths known) a ≡ true → has_name (draft_paths (known ++ drafts_added g (draft_paths known) v)) a ≡ true =
    λ a h. ap (λ (ns : List (List ℕ)). has_name ns a) (map-append (λ d. d.path) known (drafts_added g (draft_paths known) v))
    ∙ list_any-append (λ other. bytes_eq other a) (draft_paths known) (draft_paths (drafts_added g (draft_paths known) v)) ∙ rw h refl in
    record {
      turn = in_turn_behind known (drafts_added g (draft_paths known) v) founded.turn (ascending_in_turn g (drafts_added g (draft_paths known) v) (added_ascend g (draft_paths known) v) of)
          (known_all g known known (drafts_added g (draft_paths known) v) (have_themselves (draft_paths known) known (λ a h. h)) founded.before founded.above (added_outside g (draft_paths known) v)
          (some_of_above (draft_paths (known ++ drafts_added g (draft_paths known) v)) (drafts_added g (draft_paths known) v) have) of);
      above = both_all (λ (d : Draft). (lies_above [] d.path ≡ true) × ((a : List ℕ) → lies_above [] a ≡ true → lies_above a d.path ≡ true → has_name (draft_paths (known ++ drafts_added g (draft_paths known) v)) a ≡ true))
          known (drafts_added g (draft_paths known) v) (wider (draft_paths known) (draft_paths (known ++ drafts_added g (draft_paths known) v)) known wider_known founded.above) have;
      before = both_all (λ (d : Draft). (0 < d.since) × (d.since < g + 1)) known (drafts_added g (draft_paths known) v) (later_all g known founded.before) (now_all g (drafts_added g (draft_paths known) v) positive of);
    }

founded_from : (g : ℕ) (known : List Draft) (bs : List JsonValue) → 0 < g → list_all is_body bs ≡ true → AreFounded g known → AreFounded (g + length bs) (drafts_from g known bs)
founded_from g known [] positive all founded = let e : g + 0 ≡ g = omega arith in rw e founded
founded_from g known (b ∷ bs) positive all founded =
    let parts = both (is_body b) (list_all is_body bs) all in
    let e : g + length (b ∷ bs) ≡ g + 1 + length bs = omega arith in
    rw e (founded_from (g + 1) (known ++ drafts_added g (draft_paths known) b) bs (omega arith) parts.1 (founded_more g known b positive parts.0 founded))

pub founded : (bs : List JsonValue) → list_all is_body bs ≡ true → AreFounded (1 + length bs) (drafts_of bs)
unfolding drafts_of
founded bs all = founded_from 1 [] bs (omega arith) all (record { turn = tt; above = tt; before = tt })
