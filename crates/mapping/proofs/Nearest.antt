-- The nearest scope above a path, and the parts of scopes and fields by their numbers.
use Rattle.std.proofs.Common.{◌≡◌, ℕ, zero, suc, ◌+◌, ◌<◌, ◌≤◌, inl, inr, true, false, if◌then◌else◌, List, [], ◌∷◌, ◌++◌, length, map, filter, get_or, drop, Some, None, unwrap_or, refl, sym, ap, ◌∙◌, subst, arith}
use Rattle.std.proofs.lemmas.Bool.{cases_order}
use Rattle.std.specs.List.{AllByRecursion, last_or, range_with_len}
use Rattle.mapping_growth.specs.Fields.{Draft, draft_paths}
use Rattle.mapping_body.specs.Names.{lies_above, names_between}
use Rattle.mapping_body.proofs.Walks.{split}
use Rattle.mapping.specs.declared.scope.ScopePath.{ScopePath}
use Rattle.mapping.specs.Mapping.{root_scope, scope_by, field_by, no_field, nearest, scopes_above}

-- ---- the nearest above

-- the nearest scope above a path, of those that are left from one on
abbrev pub nearest_from : ℕ → ℕ → List (List ℕ) → List ℕ → ℕ
nearest_from found at [] path = found
nearest_from found at (above ∷ paths) path = nearest_from (if lies_above above path then at else found) (at + 1) paths path

-- the last of the paths that lie above one
pub record IsLast (paths : List (List ℕ)) (path : List ℕ) (at : ℕ) : Type 0 where
  pub in_range : at < length paths
  pub above : lies_above (get_or paths at []) path ≡ true
  pub none_later : (later : ℕ) → at < later → later < length paths → lies_above (get_or paths later []) path ≡ false

at_drop : (paths : List (List ℕ)) (at : ℕ) (x : List ℕ) (rest : List (List ℕ)) → x ∷ rest ≡ drop at paths → (at < length paths) × (get_or paths at [] ≡ x) × (rest ≡ drop (at + 1) paths)
at_drop [] zero x rest e = absurd (cc)
at_drop [] (suc at) x rest e = absurd (cc)
at_drop (p ∷ paths) zero x rest e = (omega arith, cc, cc)
at_drop (p ∷ paths) (suc at) x rest e =
    let more = at_drop paths at x rest e in
    let step : suc at + 1 ≡ suc (at + 1) = omega arith in
    let less = more.0 in
    (omega (arith, less), more.1, rw step more.2)

none_from : (paths : List (List ℕ)) (at : ℕ) → [] ≡ drop at paths → length paths ≤ at
none_from [] at e = omega arith
none_from (p ∷ paths) zero e = absurd (cc)
none_from (p ∷ paths) (suc at) e = let less = none_from paths at e in omega (arith, less)

last_found : (paths : List (List ℕ)) (path : List ℕ) (rest : List (List ℕ)) (found at : ℕ) → rest ≡ drop at paths → found < length paths → lies_above (get_or paths found []) path ≡ true
    → ((later : ℕ) → found < later → later < at → lies_above (get_or paths later []) path ≡ false) → IsLast paths path (nearest_from found at rest path)
last_found paths path [] found at e h above none =
    let past = none_from paths at e in
    record { in_range = h; above = above; none_later = λ later less within. none later less (omega (arith, past)) }
last_found paths path (x ∷ rest) found at e h above none =
    let here = at_drop paths at x rest e in
    split (lies_above x path)
    (λ yes. rw yes (last_found paths path rest at (at + 1) here.2 here.0 (rw here.1 yes) (λ later less within. absurd (omega arith))))
    (λ other. rw other (last_found paths path rest found (at + 1) here.2 h above (λ later less within.
    elim (cases_order later at) [
      | inl same ↦ rw (same, here.1) other
      | inr others ↦ elim others [
        | inl before ↦ none later less before
        | inr behind ↦ absurd (omega arith)
      ]
    ])))

last_from : (paths : List (List ℕ)) (path : List ℕ) (rest : List (List ℕ)) (found at : ℕ) → rest ≡ drop at paths
    → last_or (Some found) (filter (λ n. lies_above (get_or paths n []) path) (range_with_len at (length rest))) ≡ Some (nearest_from found at rest path)
last_from paths path [] found at e = refl
last_from paths path (x ∷ rest) found at e =
    let here = at_drop paths at x rest e in
    let is : lies_above (get_or paths at []) path ≡ lies_above x path = ap (λ (p : List ℕ). lies_above p path) here.1 in
    split (lies_above x path)
    (λ yes. rw (is, yes) (last_from paths path rest at (at + 1) here.2))
    (λ no. rw (is, no) (last_from paths path rest found (at + 1) here.2))

or_else : (xs : List ℕ) (d n : ℕ) → last_or (Some d) xs ≡ Some n → unwrap_or (last_or None xs) d ≡ n
or_else [] d n e = cc
or_else (x ∷ xs) d n e = rw e refl

pub nearest_is : (paths : List (List ℕ)) (path : List ℕ) → nearest paths path ≡ nearest_from 0 0 paths path
nearest_is paths path = or_else (scopes_above paths path) 0 (nearest_from 0 0 paths path) (last_from paths path paths 0 0 refl)

drop_end : {A : Type 0} (xs : List A) (i : ℕ) → length xs ≤ i → drop i xs ≡ []
drop_end [] zero h = refl
drop_end [] (suc i) h = refl
drop_end (x ∷ xs) zero h = absurd (omega arith)
drop_end (x ∷ xs) (suc i) h = drop_end xs i (omega arith)

-- the loop over all paths
pub nearest_found : (ps : List ScopePath) (path : List ℕ) (found at i : ℕ) → length ps ≤ i
    → nearest_from found at (map (λ p. p.bytes.items) (drop i ps)) path ≡ nearest_from 0 0 (map (λ p. p.bytes.items) ps) path → found ≡ nearest (map (λ p. p.bytes.items) ps) path
nearest_found ps path found at i end h =
    sym (ap (λ (rest : List ScopePath). nearest_from found at (map (λ p. p.bytes.items) rest) path) (drop_end ps i end)) ∙ h ∙ sym (nearest_is (map (λ p. p.bytes.items) ps) path)

pub nearest_last : (paths : List (List ℕ)) (path : List ℕ) → lies_above [] path ≡ true → IsLast ([] ∷ paths) path (nearest ([] ∷ paths) path)
nearest_last paths path some =
    subst (IsLast ([] ∷ paths) path) (sym (nearest_is ([] ∷ paths) path))
    (last_found ([] ∷ paths) path ([] ∷ paths) 0 0 refl (omega arith) some (λ later less within. absurd (omega arith)))

-- ---- the scopes of drafts

pub paths_at : (paths : List (List ℕ)) (ds : List Draft) (k : ℕ) → (get_or (map (scope_by paths) ds) k root_scope).path ≡ get_or (draft_paths ds) k []
paths_at paths [] k = refl
paths_at paths (d ∷ ds) zero = refl
paths_at paths (d ∷ ds) (suc k) = paths_at paths ds k

pub arounds_at : (paths : List (List ℕ)) (ds : List Draft) (k : ℕ) → k < length ds → (get_or (map (scope_by paths) ds) k root_scope).around ≡ nearest paths (get_or (draft_paths ds) k [])
arounds_at paths [] k h = absurd (omega arith)
arounds_at paths (d ∷ ds) zero h = refl
arounds_at paths (d ∷ ds) (suc k) h = let more : k < length ds = omega arith in arounds_at paths ds k more

pub names_at : (paths : List (List ℕ)) (ds : List Draft) (k : ℕ) → k < length ds
    → (get_or (map (scope_by paths) ds) k root_scope).names ≡ names_between (get_or paths (get_or (map (scope_by paths) ds) k root_scope).around []) (get_or (draft_paths ds) k [])
names_at paths [] k h = absurd (omega arith)
names_at paths (d ∷ ds) zero h = refl
names_at paths (d ∷ ds) (suc k) h = let more : k < length ds = omega arith in names_at paths ds k more

pub homes_at : (paths : List (List ℕ)) (ds : List Draft) (k : ℕ) → k < length ds → (get_or (map (field_by paths) ds) k no_field).home ≡ nearest paths (get_or (map (field_by paths) ds) k no_field).path
homes_at paths [] k h = absurd (omega arith)
homes_at paths (d ∷ ds) zero h = refl
homes_at paths (d ∷ ds) (suc k) h = let more : k < length ds = omega arith in homes_at paths ds k more

pub field_paths_at : (paths : List (List ℕ)) (ds : List Draft) (k : ℕ) → (get_or (map (field_by paths) ds) k no_field).path ≡ get_or (draft_paths ds) k []
field_paths_at paths [] k = refl
field_paths_at paths (d ∷ ds) zero = refl
field_paths_at paths (d ∷ ds) (suc k) = field_paths_at paths ds k

-- paths that aren't the root's
abbrev pub AreBelowRoot : List (List ℕ) → Type 0
AreBelowRoot paths = AllByRecursion (λ (path : List ℕ). lies_above [] path ≡ true) paths

pub below_root_at : (paths : List (List ℕ)) (k : ℕ) → k < length paths → AreBelowRoot paths → lies_above [] (get_or paths k []) ≡ true
below_root_at [] k h all = absurd (omega arith)
below_root_at (p ∷ paths) zero h all = all.0
below_root_at (p ∷ paths) (suc k) h all = let more : k < length paths = omega arith in below_root_at paths k more all.1

-- ---- lists

pub append_nil : {A : Type 0} (xs : List A) → xs ++ [] ≡ xs
append_nil [] = refl
append_nil {A} (x ∷ xs) = ap (λ (rest : List A). x ∷ rest) (append_nil xs)
