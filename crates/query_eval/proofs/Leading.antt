-- Documents that are put into sets by the keys of the roots at them.
use Rattle.std.proofs.Common.{◌≡◌, ℕ, zero, suc, ◌+◌, ◌<◌, ◌≤◌, ◌==◌, ◌&&◌, ◌||◌, Bool, true, false, cond, List, [], ◌∷◌, ◌++◌, length, ltb, map, take, drop, get_or, replicate, slice_get, slice_set, Option, Some, None, inl, inr, refl, sym, ap, subst, ◌∙◌, append_assoc, arith, eqb-true}
use Rattle.std.specs.List.{All, Contains, list_any}
use Rattle.std.proofs.lemmas.Bool.{cases_Bool, eqb-false}
use Rattle.std.proofs.lemmas.Bool.Decides.{nat_tests}
use Rattle.std.proofs.lemmas.List.{append-nil, get_or-set_other, get_or-set_same, get_or_default, length-replicate, length-set}
use Rattle.std.proofs.lemmas.List.Elements.{All-append, All-from_get_or, All-push, All-same, All-weaker, Contains-append_left, Contains-append_right, Contains-push}
use Rattle.std.proofs.lemmas.List.Folds.{list_any-append, list_any_at, list_any_more, list_any_none}
use Rattle.std.proofs.lemmas.Option.{same_Some}
use Rattle.block_join.specs.Scores.{filled}
use Rattle.join_ordinals.specs.Ordinals.{Ordinals}
use Rattle.mapping.specs.Mapping.{Mapping}
use Rattle.segment.specs.Live.{EntryState}
use Rattle.segment_parts.specs.declared.columns.Columns.{Columns}
use Rattle.query_eval.specs.Keyed.{AddsKeyed, AreKeyed, AreKeyedTo, IsInKeyOrder, IsKeyed, IsOf, IsWithin, Led, flag_at, is_root_at, key_of, key_of_doc, keyed_at, leads_to, none_in, some_leads}
use Rattle.query_eval.specs.Sides.{answer_for, at_roots, given_by, keys_at, roots_in}
use Rattle.query_eval.specs.declared.answer.Answer.TheVariants as answer
use Rattle.query_eval.specs.declared.keyed.KeyedRoot.{KeyedRoot}
use Rattle.query_eval.specs.declared.side.Side.{Side}
use Rattle.query_eval.specs.Found.{AreLong}
use Rattle.query_eval.proofs.Entries.{Scores}
use Rattle.query_eval.proofs.Scopes.{documents_long}

-- ---- tests

pub or_false : (b : Bool) → (b || false) ≡ b
or_false true = refl
or_false false = refl

or_true : (b : Bool) → (b || true) ≡ true
or_true true = refl
or_true false = refl

or_or : (a b c : Bool) → ((a || b) || c) ≡ (a || (b || c))
or_or true b c = refl
or_or false b c = refl

and_false : (b : Bool) → (b && false) ≡ false
and_false true = refl
and_false false = refl

same_test : (a b : ℕ) → a ≡ b → (a == b) ≡ true
same_test a b e = grind arith

apart_test : (a b : ℕ) → (a ≡ b → ⊥) → (a == b) ≡ false
apart_test a b other = elim (cases_Bool (a == b)) [
  | inl same ↦ absurd (other (eqb-true a b same))
  | inr away ↦ away
]

above : (a b : ℕ) → a ≤ b → (b ≡ a → ⊥) → a < b
above zero zero least other = absurd (other refl)
above zero (suc b) least other = omega arith
above (suc a) zero least other = absurd (omega (arith, least))
above (suc a) (suc b) least other = omega (arith, above a b (omega (arith, least)) (λ e. other (ap suc e)))

before : (d doc : ℕ) → d < doc + 1 → (d ≡ doc → ⊥) → d < doc
before d doc below other = above d doc (omega (arith, below)) (λ e. other (sym e))

pub low_true : (a b : ℕ) → ltb a b ≡ true → a < b
low_true a b h = grind (arith, nat_tests)

pub low_false : (a b : ℕ) → ltb a b ≡ false → b ≤ a
low_false a b h = grind (arith, nat_tests)

-- ---- what is led to

pub led_none : (roots : List KeyedRoot) (sets : List (List Bool)) → Led roots sets [] sets
led_none roots sets = λ place doc. sym (or_false (flag_at sets place doc))

pub led_more : (roots : List KeyedRoot) (old mid new : List (List Bool)) (pairs more : List (ℕ × ℕ)) → Led roots old pairs mid → Led roots mid more new → Led roots old (pairs ++ more) new
led_more roots old mid new pairs more first second = λ place doc.
    let test : (ℕ × ℕ) → Bool = λ pair. leads_to roots place doc pair.0 in
    second place doc
    ∙ ap (λ (b : Bool). b || some_leads roots more place doc) (first place doc)
    ∙ or_or (flag_at old place doc) (some_leads roots pairs place doc) (some_leads roots more place doc)
    ∙ ap (λ (b : Bool). flag_at old place doc || b) (sym (list_any-append test pairs more))

pub led_key : (roots : List KeyedRoot) (old new : List (List Bool)) (key score : ℕ) → ((place doc : ℕ) → flag_at new place doc ≡ (flag_at old place doc || leads_to roots place doc key)) → Led roots old ((key, score) ∷ []) new
led_key roots old new key score put = λ place doc.
    put place doc ∙ ap (λ (b : Bool). flag_at old place doc || b) (sym (or_false (leads_to roots place doc key)))

-- ---- one root

-- a document is put into the set at an index
pub flag_put : (sets : List (List Bool)) (i j : ℕ) → i < length sets → j < length (get_or sets i []) → (place doc : ℕ)
    → flag_at (slice_set sets i (slice_set (get_or sets i []) j true)) place doc ≡ (flag_at sets place doc || ((i == place) && (j == doc)))
flag_put sets i j low inside place doc = elim (cases_Bool (i == place)) [
  | inl here ↦
      let same : i ≡ place = eqb-true i place here in
      let own : get_or (slice_set sets i (slice_set (get_or sets i []) j true)) place [] ≡ slice_set (get_or sets i []) j true =
      ap (λ n. get_or (slice_set sets i (slice_set (get_or sets i []) j true)) n []) (sym same) ∙ get_or-set_same sets i (slice_set (get_or sets i []) j true) [] low in
      let old : get_or sets place [] ≡ get_or sets i [] = ap (λ n. get_or sets n []) (sym same) in
      ap (λ (l : List Bool). get_or l doc false) own
      ∙ in_set (get_or sets i []) refl
      ∙ ap (λ (l : List Bool). get_or l doc false || (j == doc)) (sym old)
      ∙ ap (λ (b : Bool). flag_at sets place doc || (b && (j == doc))) (sym here)
  | inr other ↦
      ap (λ (l : List Bool). get_or l doc false) (get_or-set_other sets i place (slice_set (get_or sets i []) j true) [] (λ e. eqb-false i place other (sym e)))
      ∙ sym (or_false (flag_at sets place doc))
      ∙ ap (λ (b : Bool). flag_at sets place doc || (b && (j == doc))) (sym other)
]
  where
    in_set : (set : List Bool) → set ≡ get_or sets i [] → get_or (slice_set set j true) doc false ≡ (get_or set doc false || (j == doc))
    in_set set is = elim (cases_Bool (j == doc)) [
      | inl here ↦
          let same : j ≡ doc = eqb-true j doc here in
          ap (λ n. get_or (slice_set set j true) n false) (sym same)
          ∙ get_or-set_same set j true false (omega (arith, inside, ap length is))
          ∙ sym (or_true (get_or set doc false))
          ∙ ap (λ (b : Bool). get_or set doc false || b) (sym here)
      | inr other ↦
          get_or-set_other set j doc true false (λ e. eqb-false j doc other (sym e))
          ∙ sym (or_false (get_or set doc false))
          ∙ ap (λ (b : Bool). get_or set doc false || b) (sym other)
    ]

pub lengths_put : (sets : List (List Bool)) (i j : ℕ) → map length (slice_set sets i (slice_set (get_or sets i []) j true)) ≡ map length sets
lengths_put [] zero j = refl
lengths_put [] (suc i) j = refl
lengths_put (s ∷ sets) zero j = ap (λ (n : ℕ). n ∷ map length sets) (length-set s j true)
lengths_put (s ∷ sets) (suc i) j = ap (λ (l : List ℕ). length s ∷ l) (lengths_put sets i j)

pub set_low : (sets : List (List Bool)) (i j : ℕ) → j < get_or (map length sets) i 0 → i < length sets
set_low [] i j low = absurd (omega (arith, low))
set_low (s ∷ sets) zero j low = omega arith
set_low (s ∷ sets) (suc i) j low = omega (arith, set_low sets i j low)

pub doc_low : (sets : List (List Bool)) (i j : ℕ) → j < get_or (map length sets) i 0 → j < length (get_or sets i [])
doc_low [] i j low = absurd (omega (arith, low))
doc_low (s ∷ sets) zero j low = low
doc_low (s ∷ sets) (suc i) j low = doc_low sets i j low

-- ---- the roots of a key

module _ {A : Type 0} (test : A → Bool) where
  any_before : (xs : List A) (n : ℕ) → ((j : ℕ) (d : A) → j < n → j < length xs → test (get_or xs j d) ≡ false) → list_any test (take n xs) ≡ false
  any_before [] zero fails = refl
  any_before [] (suc n) fails = refl
  any_before (x ∷ xs) zero fails = refl
  any_before (x ∷ xs) (suc n) fails =
      ap (λ (b : Bool). b || list_any test (take n xs)) (fails 0 x (omega arith) (omega arith))
      ∙ any_before xs n (λ j d low within. fails (suc j) d (omega (arith, low)) (omega (arith, within)))

  any_after : (xs : List A) (n : ℕ) → ((j : ℕ) (d : A) → n ≤ j → j < length xs → test (get_or xs j d) ≡ false) → list_any test (take n xs) ≡ list_any test xs
  any_after [] zero fails = refl
  any_after [] (suc n) fails = refl
  any_after (x ∷ xs) zero fails =
      sym (ap (λ (b : Bool). b || list_any test xs) (fails 0 x (omega arith) (omega arith)) ∙ sym (any_after xs 0 (λ j d low within. fails (suc j) d (omega arith) (omega (arith, within)))))
  any_after (x ∷ xs) (suc n) fails = ap (λ (b : Bool). test x || b) (any_after xs n (λ j d low within. fails (suc j) d (omega (arith, low)) (omega (arith, within))))

  any_alike : (other : A → Bool) → ((x : A) → test x ≡ other x) → (xs : List A) → list_any test xs ≡ list_any other xs
  any_alike other same [] = refl
  any_alike other same (x ∷ xs) = rw (same x, any_alike other same xs) refl

module _ (roots : List KeyedRoot) (key : ℕ) where
  -- the documents of the first roots, of those with the key, are put into the sets
  abbrev pub Put : List (List Bool) → ℕ → List (List Bool) → Type 0
  Put first at now = (place doc : ℕ) → flag_at now place doc ≡ (flag_at first place doc || list_any (is_root_at key place doc) (take at roots))

  other_key : (place doc : ℕ) (root : KeyedRoot) → (root.key ≡ key → ⊥) → is_root_at key place doc root ≡ false
  other_key place doc root other = ap (λ (b : Bool). b && ((root.place == place) && (root.doc == doc))) (apart_test root.key key other)

  pub put_start : (sets : List (List Bool)) (start : ℕ) → ((j : ℕ) (d : KeyedRoot) → j < start → j < length roots → key_of (get_or roots j d) < key) → Put sets start sets
  put_start sets start less = λ place doc.
      sym (or_false (flag_at sets place doc))
      ∙ ap (λ (b : Bool). flag_at sets place doc || b)
      (sym (any_before (is_root_at key place doc) roots start (λ j d low within. other_key place doc (get_or roots j d) (λ same. omega (arith, same, less j d low within)))))

  pub put_next : (first old new : List (List Bool)) (at : ℕ) (root : KeyedRoot) → at < length roots → root ≡ get_or roots at root → root.key ≡ key
      → Put first at old → ((place doc : ℕ) → flag_at new place doc ≡ (flag_at old place doc || ((root.place == place) && (root.doc == doc)))) → Put first (at + 1) new
  put_next first old new at root low is own was put = λ place doc.
      let here : Bool = (root.place == place) && (root.doc == doc) in
      let test : KeyedRoot → Bool = is_root_at key place doc in
      let one : test (get_or roots at root) ≡ here = ap test (sym is) ∙ ap (λ (b : Bool). b && here) (same_test root.key key own) in
      put place doc
      ∙ ap (λ (b : Bool). b || here) (was place doc)
      ∙ or_or (flag_at first place doc) (list_any test (take at roots)) here
      ∙ ap (λ (b : Bool). flag_at first place doc || (list_any test (take at roots) || b)) (sym one)
      ∙ ap (λ (b : Bool). flag_at first place doc || b) (sym (list_any_more test roots at root low))

  pub put_end : (first now : List (List Bool)) (at : ℕ) → ((j : ℕ) (d : KeyedRoot) → at ≤ j → j < length roots → key < key_of (get_or roots j d)) → Put first at now
      → (place doc : ℕ) → flag_at now place doc ≡ (flag_at first place doc || leads_to roots place doc key)
  put_end first now at greater was = λ place doc.
      was place doc
      ∙ ap (λ (b : Bool). flag_at first place doc || b)
      (any_after (is_root_at key place doc) roots at (λ j d from within. other_key place doc (get_or roots j d) (λ same. omega (arith, same, greater j d from within))))

  -- behind a greater key each is greater
  pub keys_greater : (at : ℕ) (d : KeyedRoot) → IsInKeyOrder roots → at < length roots → key ≤ key_of (get_or roots at d) → (key_of (get_or roots at d) ≡ key → ⊥) → (j : ℕ) (e : KeyedRoot) → at ≤ j → j < length roots → key < key_of (get_or roots j e)
  keys_greater at d sorted low least other j e from within =
      let up : key_of (get_or roots at e) ≤ key_of (get_or roots j e) = sorted at j e from within in
      let same : key_of (get_or roots at e) ≡ key_of (get_or roots at d) = ap key_of (get_or_default roots at e d low) in
      let apart : key < key_of (get_or roots at d) = above key (key_of (get_or roots at d)) least other in
      omega (arith, up, same, apart)

-- ---- the roots of an entry

module _ (m : Mapping) (ordinals : Ordinals) (side : Side) (c : Columns) (place : ℕ) where
  abbrev Own : KeyedRoot → Type 0
  Own root = IsOf m ordinals side c place root

  pub adds_none : (old new : List KeyedRoot) → new ≡ old → AddsKeyed m ordinals side c place 0 old new
  adds_none old new is = record {
    added = [];
    is = is ∙ sym (append-nil old);
    own = All-from_get_or Own [] (keyed_at 0 0 0) (λ i low. absurd (omega (arith, low)));
    all = λ doc key low own. absurd (omega (arith, low));
  }

  pub adds_some : (old mid new : List KeyedRoot) (doc key : ℕ) → AddsKeyed m ordinals side c place doc old mid → doc < c.documents → Some key ≡ key_of_doc m ordinals side c place doc
      → new ≡ mid ++ keyed_at key place doc ∷ [] → AddsKeyed m ordinals side c place (doc + 1) old new
  adds_some old mid new doc key it low own pushed =
      let root : KeyedRoot = keyed_at key place doc in
      record {
        added = it.added ++ root ∷ [];
        is = pushed ∙ ap (λ (l : List KeyedRoot). l ++ root ∷ []) it.is ∙ append_assoc old it.added (root ∷ []);
        own = All-push Own it.added root it.own (record { here = refl; low = low; key = sym own });
        all = λ d k below is. elim (cases_Bool (d == doc)) [
          | inl here ↦
              let same : d ≡ doc = eqb-true d doc here in
              let keys : k ≡ key = same_Some k key (sym is ∙ ap (key_of_doc m ordinals side c place) same ∙ sym own) in
              subst (λ (r : KeyedRoot). Contains (it.added ++ root ∷ []) r)
              (ap (λ (n : ℕ). keyed_at n place doc) (sym keys) ∙ ap (λ (n : ℕ). keyed_at k place n) (sym same))
              (Contains-push it.added root)
          | inr other ↦ Contains-append_left it.added (root ∷ []) (keyed_at k place d) (it.all d k (before d doc below (eqb-false d doc other)) is)
        ];
      }

  pub adds_nothing : (old mid : List KeyedRoot) (doc : ℕ) → AddsKeyed m ordinals side c place doc old mid → None ≡ key_of_doc m ordinals side c place doc → AddsKeyed m ordinals side c place (doc + 1) old mid
  adds_nothing old mid doc it none = record {
    added = it.added;
    is = it.is;
    own = it.own;
    all = λ d k below is. elim (cases_Bool (d == doc)) [
      | inl here ↦ absurd (let no : None ≡ Some k = none ∙ ap (key_of_doc m ordinals side c place) (sym (eqb-true d doc here)) ∙ is in let never : ⊥ = cc in never)
      | inr other ↦ it.all d k (before d doc below (eqb-false d doc other)) is
    ];
  }

-- ---- the roots of a view

module _ (m : Mapping) (ordinals : Ordinals) (side : Side) (view : List EntryState) where
  pub keyed_none : (roots : List KeyedRoot) → roots ≡ [] → AreKeyedTo m ordinals side view 0 roots
  keyed_none roots none = record {
    own = All-same (IsKeyed m ordinals side view) roots [] none (All-from_get_or (IsKeyed m ordinals side view) [] (keyed_at 0 0 0) (λ i low. absurd (omega (arith, low))));
    all = λ place doc key entry low at inside is. absurd (omega (arith, low));
  }

  pub keyed_next : (place : ℕ) (e : EntryState) (c : Columns) (old new : List KeyedRoot) → slice_get view place ≡ Some e → c ≡ e.columns → AreKeyedTo m ordinals side view place old → AddsKeyed m ordinals side c place c.documents old new
      → AreKeyedTo m ordinals side view (place + 1) new
  keyed_next place e c old new at own was more = record {
    own = All-same (IsKeyed m ordinals side view) new (old ++ more.added) more.is (All-append (IsKeyed m ordinals side view) old more.added was.own (All-weaker (IsOf m ordinals side c place) (IsKeyed m ordinals side view) stands more.added more.own));
    all = λ p doc key entry low there inside is. subst (λ (l : List KeyedRoot). Contains l (keyed_at key p doc)) (sym more.is) (elim (cases_Bool (p == place)) [
      | inl here ↦
          let same : p ≡ place = eqb-true p place here in
          let entries : entry ≡ e = same_Some entry e (sym there ∙ ap (slice_get view) same ∙ at) in
          let columns : entry.columns ≡ c = ap (λ (x : EntryState). x.columns) entries ∙ sym own in
          let key_is : key_of_doc m ordinals side c place doc ≡ Some key =
          ap (λ (x : Columns). key_of_doc m ordinals side x place doc) (sym columns) ∙ ap (λ n. key_of_doc m ordinals side entry.columns n doc) (sym same) ∙ is in
          subst (λ n. Contains (old ++ more.added) (keyed_at key n doc)) (sym same)
          (Contains-append_right old more.added (keyed_at key place doc) (more.all doc key (omega (arith, inside, ap (λ (x : Columns). x.documents) columns)) key_is))
      | inr other ↦ Contains-append_left old more.added (keyed_at key p doc) (was.all p doc key entry (before p place low (eqb-false p place other)) there inside is)
    ]);
  }
    where
      stands : (root : KeyedRoot) → IsOf m ordinals side c place root → IsKeyed m ordinals side view root
      stands root own_root = record {
        entry = e;
        at = ap (slice_get view) own_root.here ∙ at;
        stands = record {
          here = refl;
          low = omega (arith, own_root.low, ap (λ (x : Columns). x.documents) own);
          key = ap (λ n. key_of_doc m ordinals side e.columns n root.doc) own_root.here ∙ ap (λ (x : Columns). key_of_doc m ordinals side x place root.doc) (sym own) ∙ own_root.key;
        };
      }

-- ---- empty sets

none_long : (view : List EntryState) → map length (map none_in view) ≡ map (λ (e : EntryState). e.columns.documents) view
none_long [] = refl
none_long (e ∷ view) = ap (λ (n : ℕ). n ∷ map length (map none_in view)) (length-replicate e.columns.documents false) ∙ ap (λ (l : List ℕ). e.columns.documents ∷ l) (none_long view)

none_at : (view : List EntryState) (place : ℕ) (e : EntryState) → slice_get view place ≡ Some e → get_or (map length (map none_in view)) place 0 ≡ e.columns.documents
none_at [] place e at = absurd (let no : ⊥ = cc in no)
none_at (x ∷ view) zero e at = length-replicate x.columns.documents false ∙ ap (λ (y : EntryState). y.columns.documents) (same_Some x e at)
none_at (x ∷ view) (suc place) e at = none_at view place e at

no_flag : (n doc : ℕ) → get_or (replicate n false) doc false ≡ false
no_flag zero doc = refl
no_flag (suc n) zero = refl
no_flag (suc n) (suc doc) = no_flag n doc

none_flag : (view : List EntryState) (place doc : ℕ) → flag_at (map none_in view) place doc ≡ false
none_flag [] place doc = refl
none_flag (e ∷ view) zero doc = no_flag e.columns.documents doc
none_flag (e ∷ view) (suc place) doc = none_flag view place doc

entry_low : (view : List EntryState) (place : ℕ) (e : EntryState) → slice_get view place ≡ Some e → place < length view
entry_low [] place e at = absurd (let no : ⊥ = cc in no)
entry_low (x ∷ view) zero e at = omega arith
entry_low (x ∷ view) (suc place) e at = omega (arith, entry_low view place e at)

filled_long : (score : Option ℕ) (set : List Bool) → length (filled score set) ≡ length set
filled_long score [] = refl
filled_long score (flag ∷ set) = ap suc (filled_long score set)

-- ---- what is given

abbrev is_key : Option ℕ → ℕ → Bool
is_key None key = false
is_key (Some own) key = key == own

abbrev has_key : Option ℕ → ℕ × ℕ → Bool
has_key own pair = is_key own pair.0

answered : (own : Option ℕ) (pairs : List (ℕ × ℕ)) → answer_for (answer.Parent false 1) pairs own ≡ cond (list_any (has_key own) pairs) (Some 1) None
answered None [] = refl
answered None (pair ∷ pairs) = answered None pairs
answered (Some k) [] = refl
answered (Some k) (pair ∷ pairs) = elim (cases_Bool (pair.0 == k)) [
  | inl here ↦ rw here refl
  | inr other ↦ rw other (answered (Some k) pairs)
]

roots_mapped : (f : Option ℕ → Option ℕ) → f None ≡ None → (flags : List Bool) (keys : Scores) → at_roots flags (map f keys) ≡ map f (at_roots flags keys)
roots_mapped f none [] keys = refl
roots_mapped f none (false ∷ flags) keys = ap (λ (l : Scores). None ∷ l) (roots_mapped f none flags keys) ∙ ap (λ (x : Option ℕ). x ∷ map f (at_roots flags keys)) (sym none)
roots_mapped f none (true ∷ flags) [] = ap (λ (l : Scores). None ∷ l) (roots_mapped f none flags []) ∙ ap (λ (x : Option ℕ). x ∷ map f (at_roots flags [])) (sym none)
roots_mapped f none (true ∷ flags) (k ∷ keys) = ap (λ (l : Scores). f k ∷ l) (roots_mapped f none flags keys)

roots_long : (flags : List Bool) (keys : Scores) → length (at_roots flags keys) ≡ length flags
roots_long [] keys = refl
roots_long (false ∷ flags) keys = ap suc (roots_long flags keys)
roots_long (true ∷ flags) [] = ap suc (roots_long flags [])
roots_long (true ∷ flags) (k ∷ keys) = ap suc (roots_long flags keys)

by_doc : (pairs : List (ℕ × ℕ)) (set : List Bool) (keys : Scores) → length set ≡ length keys → ((doc : ℕ) → doc < length keys → get_or set doc false ≡ list_any (has_key (get_or keys doc None)) pairs)
    → filled (Some 1) set ≡ map (answer_for (answer.Parent false 1) pairs) keys
by_doc pairs [] [] long all = refl
by_doc pairs [] (k ∷ keys) long all = absurd (omega (arith, long))
by_doc pairs (flag ∷ set) [] long all = absurd (omega (arith, long))
by_doc pairs (flag ∷ set) (k ∷ keys) long all =
    let first : cond flag (Some 1) None ≡ answer_for (answer.Parent false 1) pairs k = ap (λ (b : Bool). cond b (Some 1) None) (all 0 (omega arith)) ∙ sym (answered k pairs) in
    ap (λ (x : Option ℕ). x ∷ filled (Some 1) set) first
    ∙ ap (λ (l : Scores). answer_for (answer.Parent false 1) pairs k ∷ l) (by_doc pairs set keys (omega (arith, long)) (λ doc low. all (suc doc) (omega (arith, low))))

module _ (m : Mapping) (ordinals : Ordinals) (side : Side) (view : List EntryState) (roots : List KeyedRoot) (is : AreKeyed m ordinals side view roots) where
  -- a document has a key, and no root with another one leads to it
  led_by_key : (place doc : ℕ) (e : EntryState) (own : Option ℕ) → slice_get view place ≡ Some e → doc < e.columns.documents → key_of_doc m ordinals side e.columns place doc ≡ own → (key : ℕ) → leads_to roots place doc key ≡ is_key own key
  led_by_key place doc e own at low has key = by own has
    where
      -- a root at the document has its key
      own_key : (root : KeyedRoot) → IsKeyed m ordinals side view root → root.place ≡ place → root.doc ≡ doc → own ≡ Some root.key
      own_key root it here there =
          let entries : it.entry ≡ e = same_Some it.entry e (sym it.at ∙ ap (slice_get view) here ∙ at) in
          sym has
          ∙ ap (λ n. key_of_doc m ordinals side e.columns n doc) (sym here)
          ∙ ap (key_of_doc m ordinals side e.columns root.place) (sym there)
          ∙ ap (λ (x : EntryState). key_of_doc m ordinals side x.columns root.place root.doc) (sym entries)
          ∙ it.stands.key

      not_at : (root : KeyedRoot) → IsKeyed m ordinals side view root → (own ≡ Some key → ⊥) → is_root_at key place doc root ≡ false
      not_at root it other = elim (cases_Bool (root.place == place)) [
        | inl here ↦ elim (cases_Bool (root.doc == doc)) [
          | inl there ↦
              ap (λ (b : Bool). b && ((root.place == place) && (root.doc == doc)))
              (apart_test root.key key (λ same. other (own_key root it (eqb-true root.place place here) (eqb-true root.doc doc there) ∙ ap Some same)))
          | inr away ↦ ap (λ (b : Bool). (root.key == key) && ((root.place == place) && b)) away ∙ ap (λ (b : Bool). (root.key == key) && b) (and_false (root.place == place)) ∙ and_false (root.key == key)
        ]
        | inr away ↦ ap (λ (b : Bool). (root.key == key) && (b && (root.doc == doc))) away ∙ and_false (root.key == key)
      ]

      nowhere : (own ≡ Some key → ⊥) → leads_to roots place doc key ≡ false
      nowhere other = list_any_none (is_root_at key place doc) roots (All-weaker (IsKeyed m ordinals side view) (λ root. is_root_at key place doc root ≡ false) (λ root it. not_at root it other) roots is.those.own)

      somewhere : own ≡ Some key → leads_to roots place doc key ≡ true
      somewhere same =
          let there = is.those.all place doc key e (entry_low view place e at) at low (has ∙ same) in
          let root : KeyedRoot = keyed_at key place doc in
          list_any_at (is_root_at key place doc) roots there.0 root there.1
          (ap (is_root_at key place doc) there.2
          ∙ ap (λ (b : Bool). b && ((place == place) && (doc == doc))) (same_test key key refl)
          ∙ ap (λ (b : Bool). b && (doc == doc)) (same_test place place refl)
          ∙ same_test doc doc refl)

      by : (k : Option ℕ) → key_of_doc m ordinals side e.columns place doc ≡ k → leads_to roots place doc key ≡ is_key k key
      by None none = nowhere (λ same. let no : None ≡ Some key = sym none ∙ has ∙ same in let never : ⊥ = cc in never)
      by (Some k) some = elim (cases_Bool (key == k)) [
        | inl here ↦ somewhere (sym has ∙ some ∙ ap Some (sym (eqb-true key k here))) ∙ sym here
        | inr other ↦ nowhere (λ same. eqb-false key k other (sym (same_Some k key (sym some ∙ has ∙ same)))) ∙ sym other
      ]

  module _ (pairs : List (ℕ × ℕ)) where
    entry_given : (place : ℕ) (e : EntryState) (set : List Bool) → slice_get view place ≡ Some e → length set ≡ e.columns.documents → ((doc : ℕ) → get_or set doc false ≡ some_leads roots pairs place doc)
        → filled (Some 1) set ≡ at_roots (roots_in e) (map (answer_for (answer.Parent false 1) pairs) (keys_at m ordinals side e.columns place))
    entry_given place e set at long flags =
        let keys : Scores = at_roots (roots_in e) (keys_at m ordinals side e.columns place) in
        let all : length keys ≡ e.columns.documents = roots_long (roots_in e) (keys_at m ordinals side e.columns place) ∙ documents_long e.columns 0 in
        by_doc pairs set keys (long ∙ sym all)
        (λ doc low.
        flags doc
        ∙ any_alike (λ pair. leads_to roots place doc pair.0) (has_key (get_or keys doc None)) (λ pair. led_by_key place doc e (get_or keys doc None) at (omega (arith, low, all)) refl pair.0) pairs)
        ∙ sym (roots_mapped (answer_for (answer.Parent false 1) pairs) refl (roots_in e) (keys_at m ordinals side e.columns place))

    given_from : (place : ℕ) (entries : List EntryState) (sets : List (List Bool)) → ((i : ℕ) (e : EntryState) → slice_get entries i ≡ Some e → slice_get view (place + i) ≡ Some e)
        → map length sets ≡ map (λ (e : EntryState). e.columns.documents) entries → ((i doc : ℕ) → flag_at sets i doc ≡ some_leads roots pairs (place + i) doc)
        → map (filled (Some 1)) sets ≡ given_by m ordinals side (answer.Parent false 1) pairs place entries
    given_from place [] [] stand long flags = refl
    given_from place [] (s ∷ sets) stand long flags = absurd (let no : ⊥ = cc in no)
    given_from place (e ∷ entries) [] stand long flags = absurd (let no : ⊥ = cc in no)
    given_from place (e ∷ entries) (s ∷ sets) stand long flags =
        let here : place + 0 ≡ place = omega arith in
        let own_long : length s ≡ e.columns.documents = ap (λ (l : List ℕ). get_or l 0 0) long in
        let rest_long : map length sets ≡ map (λ (x : EntryState). x.columns.documents) entries = ap (λ (l : List ℕ). drop 1 l) long in
        let first : filled (Some 1) s ≡ at_roots (roots_in e) (map (answer_for (answer.Parent false 1) pairs) (keys_at m ordinals side e.columns place)) =
        entry_given place e s (ap (slice_get view) (sym here) ∙ stand 0 e refl) own_long (λ doc. flags 0 doc ∙ ap (λ n. some_leads roots pairs n doc) here) in
        ap (λ (x : Scores). x ∷ map (filled (Some 1)) sets) first
        ∙ ap (λ (l : List Scores). at_roots (roots_in e) (map (answer_for (answer.Parent false 1) pairs) (keys_at m ordinals side e.columns place)) ∷ l)
        (given_from (place + 1) entries sets
        (λ i x there. let next : place + 1 + i ≡ place + suc i = omega arith in ap (slice_get view) next ∙ stand (suc i) x there)
        rest_long
        (λ i doc. let next : place + suc i ≡ place + 1 + i = omega arith in flags (suc i) doc ∙ ap (λ n. some_leads roots pairs n doc) next))

    -- sets that were empty and are led to give what the roots are given
    pub led_given : (sets : List (List Bool)) → map length sets ≡ map length (map none_in view) → Led roots (map none_in view) pairs sets → map (filled (Some 1)) sets ≡ given_by m ordinals side (answer.Parent false 1) pairs 0 view
    led_given sets long led =
        given_from 0 view sets
        (λ i e there. let same : 0 + i ≡ i = omega arith in ap (slice_get view) same ∙ there)
        (long ∙ none_long view)
        (λ i doc.
        let same : i ≡ 0 + i = omega arith in
        led i doc ∙ ap (λ (b : Bool). b || some_leads roots pairs i doc) (none_flag view i doc) ∙ ap (λ n. some_leads roots pairs n doc) same)

  -- each stands within the set of its entry
  pub keyed_within : All (IsWithin (map length (map none_in view))) roots
  keyed_within = All-weaker (IsKeyed m ordinals side view) (IsWithin (map length (map none_in view))) (λ root it. omega (arith, it.stands.low, none_at view root.place it.entry it.at)) roots is.those.own

pub led_long : (view : List EntryState) (sets : List (List Bool)) → map length sets ≡ map length (map none_in view) → AreLong view (map (filled (Some 1)) sets)
led_long [] [] long = tt
led_long [] (s ∷ sets) long = absurd (let no : ⊥ = cc in no)
led_long (e ∷ view) [] long = absurd (let no : ⊥ = cc in no)
led_long (e ∷ view) (s ∷ sets) long = (
  filled_long (Some 1) s ∙ ap (λ (l : List ℕ). get_or l 0 0) long ∙ length-replicate e.columns.documents false,
  led_long view sets (ap (λ (l : List ℕ). drop 1 l) long),
)
