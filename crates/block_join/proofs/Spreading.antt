-- The join down, from parent to parent.
use Rattle.std.proofs.Common.{◌≡◌, ◌≢◌, ℕ, zero, suc, ◌+◌, ◌-◌, ◌<◌, ◌≤◌, Bool, true, false, cond, eqb, List, [], ◌∷◌, ◌++◌, length, take, drop, replicate, map, get_or, Option, Some, None, is_some, refl, sym, ap, ◌∙◌, inl, inr, arith, append_assoc, drop-drop, length-drop, get_or-drop, eqb-true, drop-cons, length-take-le}
use Rattle.std.specs.Prelude.{⊤}
use Rattle.std.specs.List.{zip, drop-map, flat_map}
use Rattle.std.specs.Option.{option_to_list}
use Rattle.std.proofs.lemmas.Bool.{cases_Bool, cases_lt, true≢false}
use Rattle.block_bits.specs.Blocks.{documents_of, has_scope}
use Rattle.block_bits.specs.Flags.{is_marked}
use Rattle.block_join.specs.Joins.{spread, next_at}
use Rattle.block_join.specs.Kept.{next_parent, IsStart}
use Rattle.block_join.specs.Scores.{filled, padded, between}
use Rattle.block_join.proofs.Firsts.{NoneIn, FirstAt, first_within}
use Rattle.block_join.proofs.Built.{padded_more}
use Rattle.block_join.proofs.Joining.{hit_at, no_hit}

-- the last of the first so many is in the set, where there are any
abbrev pub EndsIn : ℕ → List Bool → Type 0
EndsIn zero flags = ⊤
EndsIn (suc k) [] = ⊥
EndsIn (suc zero) (flag ∷ flags) = flag ≡ true
EndsIn (suc (suc k)) (flag ∷ flags) = EndsIn (suc k) flags

ends_in : (k : ℕ) (flags : List Bool) → k < length flags → get_or flags k false ≡ true → EndsIn (suc k) flags
ends_in k [] h e = absurd (omega (arith, h))
ends_in zero (flag ∷ flags) h e = e
ends_in (suc k) (flag ∷ flags) h e = ends_in k flags (omega (arith, h)) e

first_from : (k : ℕ) (flags : List Bool) → k < length flags → get_or flags k false ≡ true → ((at : ℕ) → at < k → get_or flags at false ≡ false) → FirstAt is_marked k flags
first_from k [] h e fail = absurd (omega (arith, h))
first_from zero (flag ∷ flags) h e fail = e
first_from (suc k) (flag ∷ flags) h e fail = (fail 0 (omega arith), first_from k flags (omega (arith, h)) e (λ at below. fail (suc at) (omega (arith, below))))

pub first_holds : (k : ℕ) (flags : List Bool) → FirstAt is_marked k flags → get_or flags k false ≡ true
first_holds zero [] h = absurd h
first_holds zero (flag ∷ flags) h = h
first_holds (suc k) [] h = absurd h
first_holds (suc k) (flag ∷ flags) h = first_holds k flags h.1

first_fails : (k at : ℕ) (flags : List Bool) → FirstAt is_marked k flags → at < k → get_or flags at false ≡ false
first_fails zero at flags h below = absurd (omega (arith, below))
first_fails (suc k) at [] h below = absurd h
first_fails (suc k) zero (flag ∷ flags) h below = h.0
first_fails (suc k) (suc at) (flag ∷ flags) h below = first_fails k at flags h.1 (omega (arith, below))

module _ (from to : ℕ) (apart : from ≢ to) where
  elsewhere : (s : ℕ) → eqb s from ≡ true → eqb s to ≡ false
  elsewhere s e = elim (cases_Bool (eqb s to)) [
    | inl here ↦ absurd (apart (sym (eqb-true s from e) ∙ eqb-true s to here))
    | inr other ↦ other
  ]

  -- up to a parent that tells nothing
  next_quiet : (k : ℕ) (scopes : List ℕ) (scores : List (Option ℕ)) → NoneIn is_some (suc k) scores → EndsIn (suc k) (map (has_scope from) scopes) → length scopes ≡ length scores
      → next_at from (zip scopes scores) ≡ None
  next_quiet k [] scores none ends e = absurd ends
  next_quiet k (s ∷ scopes) [] none ends e = absurd (omega (arith, e))
  next_quiet k (s ∷ scopes) (Some x ∷ scores) none ends e = absurd (let no : true ≡ false = none.0 in cc)
  next_quiet zero (s ∷ scopes) (None ∷ scores) none ends e = rw ends refl
  next_quiet (suc k) (s ∷ scopes) (None ∷ scores) none ends e = elim (cases_Bool (eqb s from)) [
    | inl here ↦ rw here refl
    | inr other ↦ rw other (next_quiet k scopes scores none.1 ends (omega (arith, e)))
  ]

  spread_quiet : (k : ℕ) (scopes : List ℕ) (scores : List (Option ℕ)) → NoneIn is_some k scores → EndsIn k (map (has_scope from) scopes) → length scopes ≡ length scores
      → spread from to (zip scopes scores) ≡ replicate k None ++ spread from to (zip (drop k scopes) (drop k scores))
  spread_quiet zero scopes scores none ends e = refl
  spread_quiet (suc k) [] scores none ends e = absurd ends
  spread_quiet (suc k) (s ∷ scopes) [] none ends e = absurd (omega (arith, e))
  spread_quiet (suc k) (s ∷ scopes) (Some x ∷ scores) none ends e = absurd (let no : true ≡ false = none.0 in cc)
  spread_quiet (suc zero) (s ∷ scopes) (None ∷ scores) none ends e = rw (elsewhere s ends) refl
  spread_quiet (suc (suc k)) (s ∷ scopes) (None ∷ scores) none ends e =
      let rest = ap (λ (ss : List (Option ℕ)). None ∷ ss) (spread_quiet (suc k) scopes scores none.1 ends (omega (arith, e))) in
      let next = next_quiet k scopes scores none.1 ends (omega (arith, e)) in
      elim (cases_Bool (eqb s to)) [
        | inl here ↦ rw (here, next) rest
        | inr other ↦ rw other rest
      ]

  -- inside a parent
  next_found : (k : ℕ) (scopes : List ℕ) (scores : List (Option ℕ)) → FirstAt is_marked k (map (has_scope from) scopes) → length scopes ≡ length scores
      → next_at from (zip scopes scores) ≡ get_or scores k None
  next_found zero [] scores h e = absurd h
  next_found zero (s ∷ scopes) [] h e = absurd (omega (arith, e))
  next_found zero (s ∷ scopes) (x ∷ scores) h e = rw h refl
  next_found (suc k) [] scores h e = absurd h
  next_found (suc k) (s ∷ scopes) [] h e = absurd (omega (arith, e))
  next_found (suc k) (s ∷ scopes) (x ∷ scores) h e = rw h.0 (next_found k scopes scores h.1 (omega (arith, e)))

  spread_inside : (k : ℕ) (scopes : List ℕ) (scores : List (Option ℕ)) → FirstAt is_marked k (map (has_scope from) scopes) → length scopes ≡ length scores
      → spread from to (zip scopes scores) ≡ filled (get_or scores k None) (take k (map (has_scope to) scopes)) ++ (None ∷ spread from to (zip (drop (suc k) scopes) (drop (suc k) scores)))
  spread_inside zero [] scores h e = absurd h
  spread_inside zero (s ∷ scopes) [] h e = absurd (omega (arith, e))
  spread_inside zero (s ∷ scopes) (x ∷ scores) h e = rw (elsewhere s h) refl
  spread_inside (suc k) [] scores h e = absurd h
  spread_inside (suc k) (s ∷ scopes) [] h e = absurd (omega (arith, e))
  spread_inside (suc k) (s ∷ scopes) (x ∷ scores) h e =
      let rest = spread_inside k scopes scores h.1 (omega (arith, e)) in
      let next = next_found k scopes scores h.1 (omega (arith, e)) in
      ap (λ (y : Option ℕ). cond (eqb s to) y None ∷ spread from to (zip scopes scores)) next
      ∙ ap (λ (ss : List (Option ℕ)). cond (eqb s to) (get_or scores k None) None ∷ ss) rest

  -- with no parent ahead that tells anything
  next_free : (scopes : List ℕ) (scores : List (Option ℕ)) → NoneIn is_marked (length (map (has_scope from) scopes)) (map (has_scope from) scopes) → next_at from (zip scopes scores) ≡ None
  next_free [] scores h = refl
  next_free (s ∷ scopes) [] h = refl
  next_free (s ∷ scopes) (x ∷ scores) h = rw h.0 (next_free scopes scores h.1)

  free_ends : (scopes : List ℕ) (scores : List (Option ℕ)) → NoneIn is_marked (length (map (has_scope from) scopes)) (map (has_scope from) scopes) → length scopes ≡ length scores
      → spread from to (zip scopes scores) ≡ replicate (length scores) None
  free_ends [] [] h e = refl
  free_ends [] (x ∷ scores) h e = absurd (omega (arith, e))
  free_ends (s ∷ scopes) [] h e = absurd (omega (arith, e))
  free_ends (s ∷ scopes) (x ∷ scores) h e =
      let rest = ap (λ (ss : List (Option ℕ)). None ∷ ss) (free_ends scopes scores h.1 (omega (arith, e))) in
      elim (cases_Bool (eqb s to)) [
        | inl here ↦ rw (here, next_free scopes scores h.1) rest
        | inr other ↦ rw other rest
      ]

  next_ends : (k : ℕ) (scopes : List ℕ) (scores : List (Option ℕ)) → NoneIn is_some k scores → NoneIn is_marked (length (drop k (map (has_scope from) scopes))) (drop k (map (has_scope from) scopes))
      → next_at from (zip scopes scores) ≡ None
  next_ends zero scopes scores none h = next_free scopes scores h
  next_ends (suc k) [] scores none h = refl
  next_ends (suc k) (s ∷ scopes) [] none h = refl
  next_ends (suc k) (s ∷ scopes) (Some x ∷ scores) none h = absurd (let no : true ≡ false = none.0 in cc)
  next_ends (suc k) (s ∷ scopes) (None ∷ scores) none h = elim (cases_Bool (eqb s from)) [
    | inl here ↦ rw here refl
    | inr other ↦ rw other (next_ends k scopes scores none.1 h)
  ]

  quiet_ends : (k : ℕ) (scopes : List ℕ) (scores : List (Option ℕ)) → NoneIn is_some k scores → NoneIn is_marked (length (drop k (map (has_scope from) scopes))) (drop k (map (has_scope from) scopes))
      → length scopes ≡ length scores → spread from to (zip scopes scores) ≡ replicate (length scores) None
  quiet_ends zero scopes scores none h e = free_ends scopes scores h e
  quiet_ends (suc k) [] [] none h e = refl
  quiet_ends (suc k) [] (x ∷ scores) none h e = absurd (omega (arith, e))
  quiet_ends (suc k) (s ∷ scopes) [] none h e = absurd (omega (arith, e))
  quiet_ends (suc k) (s ∷ scopes) (Some x ∷ scores) none h e = absurd (let no : true ≡ false = none.0 in cc)
  quiet_ends (suc k) (s ∷ scopes) (None ∷ scores) none h e =
      let rest = ap (λ (ss : List (Option ℕ)). None ∷ ss) (quiet_ends k scopes scores none.1 h (omega (arith, e))) in
      elim (cases_Bool (eqb s to)) [
        | inl here ↦ rw (here, next_ends k scopes scores none.1 h) rest
        | inr other ↦ rw other rest
      ]

-- ---- the loop

-- from document `from` on the join is still to be made, and the document before is a parent
pub record Spreading (outer inner : ℕ) (scopes : List ℕ) (scores done : List (Option ℕ)) (from : ℕ) : Type 0 where
  pub goes : padded from done ++ spread outer inner (zip (drop from scopes) (drop from scores)) ≡ spread outer inner (zip scopes scores)
  pub behind : length done ≤ from
  pub within : from ≤ length scores
  pub edge : 0 < from → get_or (documents_of scopes outer) (from - 1) false ≡ true

pub spreading_starts : (outer inner : ℕ) (scopes : List ℕ) (scores : List (Option ℕ)) → Spreading outer inner scopes scores [] 0
spreading_starts outer inner scopes scores = record { goes = refl; behind = omega arith; within = omega arith; edge = λ h. absurd (omega (arith, h)) }

pub length_flags : (scope : ℕ) (ss : List ℕ) → length (documents_of ss scope) ≡ length ss
length_flags scope [] = refl
length_flags scope (s ∷ ss) = ap suc (length_flags scope ss)

-- what is known of a parent that may have hit, and of where the documents inside it begin
pub record Reached (outer : ℕ) (scopes : List ℕ) (scores : List (Option ℕ)) (from parent start : ℕ) : Type 0 where
  pub later : from ≤ start
  pub start_within : start ≤ parent
  pub within : parent < length scores
  pub none : NoneIn is_some (start - from) (drop from scores)
  pub ends : EndsIn (start - from) (drop from (documents_of scopes outer))
  pub first : FirstAt is_marked (parent - start) (drop start (documents_of scopes outer))
  pub own : get_or (documents_of scopes outer) parent false ≡ true

pub reached : (outer inner : ℕ) (scopes : List ℕ) (scores done : List (Option ℕ)) (from parent start : ℕ) → Spreading outer inner scopes scores done from → length scopes ≡ length scores
    → next_parent (documents_of scopes outer) from scores ≡ Some parent → IsStart (documents_of scopes outer) parent start → Reached outer scopes scores from parent start
reached outer inner scopes scores done from parent start it long e begins =
    let flags = documents_of scopes outer in
    let hit = hit_at flags from scores parent e in
    let doc = from + hit.quiet in
    let inside : hit.more < length (drop doc flags) = first_within is_marked hit.more (drop doc flags) hit.first in
    let within : parent < length flags = omega (arith, inside, hit.place, length-drop doc flags) in
    let own : get_or flags parent false ≡ true = ap (λ n. get_or flags n false) hit.place ∙ sym (get_or-drop doc flags hit.more false) ∙ first_holds hit.more (drop doc flags) hit.first in
    let later : from ≤ start = elim (cases_lt start from) [
      | inl below ↦ absurd (true≢false (sym (it.edge (omega (arith, below))) ∙ begins.free (from - 1) (omega (arith, below)) (omega (arith, below, hit.place))))
      | inr on ↦ on
    ] in
    let early : start ≤ doc = elim (cases_lt doc start) [
      | inl past ↦
          let at : start ≡ start - 1 + 1 = omega (arith, past) in
          let ahead : doc + (start - 1 - doc) ≡ start - 1 = omega (arith, past) in
          let fails : get_or flags (start - 1) false ≡ false =
          ap (λ n. get_or flags n false) (sym ahead) ∙ sym (get_or-drop doc flags (start - 1 - doc) false) ∙ first_fails hit.more (start - 1 - doc) (drop doc flags) hit.first (omega (arith, past, begins.within, hit.place)) in
          absurd (true≢false (sym (begins.behind (start - 1) at) ∙ fails))
      | inr before ↦ before
    ] in
    record {
      later = later;
      start_within = begins.within;
      within = omega (arith, within, length_flags outer scopes, long);
      none = quiet_less (start - from) hit.quiet (drop from scores) hit.none (omega (arith, early));
      ends = (let sum : start ≡ from + (start - from) = omega (arith, later) in edge_at (start - from) flags (rw sum at begins) within);
      first = first_from (parent - start) (drop start flags) (omega (arith, begins.within, within, length-drop start flags))
          (let sum : start + (parent - start) ≡ parent = omega (arith, begins.within) in get_or-drop start flags (parent - start) false ∙ ap (λ n. get_or flags n false) sum ∙ own)
          (λ at below. get_or-drop start flags at false ∙ begins.free (start + at) (omega arith) (omega (arith, below)));
      own = own;
    }
  where
    quiet_less : (j k : ℕ) (xs : List (Option ℕ)) → NoneIn is_some k xs → j ≤ k → NoneIn is_some j xs
    quiet_less zero k xs none le = tt
    quiet_less (suc j) zero xs none le = absurd (omega (arith, le))
    quiet_less (suc j) (suc k) [] none le = tt
    quiet_less (suc j) (suc k) (x ∷ xs) none le = (none.0, quiet_less j k xs none.1 (omega (arith, le)))

    edge_at : (k : ℕ) (flags : List Bool) → IsStart flags parent (from + k) → parent < length flags → EndsIn k (drop from flags)
    edge_at zero flags begins within = tt
    edge_at (suc k) flags begins within =
        ends_in k (drop from flags) (omega (arith, begins.within, within, length-drop from flags)) (get_or-drop from flags k false ∙ begins.behind (from + k) (omega arith))

-- the join over the documents up to a parent
spread_step : (outer inner : ℕ) → outer ≢ inner → (scopes : List ℕ) (scores : List (Option ℕ)) (from parent start : ℕ) → Reached outer scopes scores from parent start → length scopes ≡ length scores
    → spread outer inner (zip (drop from scopes) (drop from scores))
    ≡ replicate (start - from) None ++ (filled (get_or scores parent None) (take (parent - start) (drop start (documents_of scopes inner))) ++ (None ∷ spread outer inner (zip (drop (parent + 1) scopes) (drop (parent + 1) scores))))
spread_step outer inner apart scopes scores from parent start it long =
    let k : ℕ = start - from in
    let j : ℕ = parent - start in
    let to_start : from + k ≡ start = omega (arith, it.later) in
    let to_parent : start + j ≡ parent = omega (arith, it.start_within) in
    let behind : start + suc j ≡ parent + 1 = omega (arith, it.start_within) in
    let ends : EndsIn k (map (has_scope outer) (drop from scopes)) = rw (← drop-map (has_scope outer) from scopes) it.ends in
    let first : FirstAt is_marked j (map (has_scope outer) (drop start scopes)) = rw (← drop-map (has_scope outer) start scopes) it.first in
    let long_from : length (drop from scopes) ≡ length (drop from scores) = omega (arith, long, length-drop from scopes, length-drop from scores) in
    let long_start : length (drop start scopes) ≡ length (drop start scores) = omega (arith, long, length-drop start scopes, length-drop start scores) in
    spread_quiet outer inner apart k (drop from scopes) (drop from scores) it.none ends long_from
    ∙ ap (λ (ds : List (ℕ × Option ℕ)). replicate k None ++ spread outer inner ds)
    (ap (λ (ss : List ℕ). zip ss (drop k (drop from scores))) (drop-drop k from scopes ∙ ap (λ n. drop n scopes) to_start)
    ∙ ap (zip (drop start scopes)) (drop-drop k from scores ∙ ap (λ n. drop n scores) to_start))
    ∙ ap (λ (ss : List (Option ℕ)). replicate k None ++ ss)
    (spread_inside outer inner apart j (drop start scopes) (drop start scores) first long_start
    ∙ ap (λ (x : Option ℕ). filled x (take j (map (has_scope inner) (drop start scopes))) ++ (None ∷ spread outer inner (zip (drop (suc j) (drop start scopes)) (drop (suc j) (drop start scores)))))
    (get_or-drop start scores j None ∙ ap (λ n. get_or scores n None) to_parent)
    ∙ ap (λ (bs : List Bool). filled (get_or scores parent None) (take j bs) ++ (None ∷ spread outer inner (zip (drop (suc j) (drop start scopes)) (drop (suc j) (drop start scores))))) (sym (drop-map (has_scope inner) start scopes))
    ∙ ap (λ (ds : List (ℕ × Option ℕ)). filled (get_or scores parent None) (take j (drop start (documents_of scopes inner))) ++ (None ∷ spread outer inner ds))
    (ap (λ (ss : List ℕ). zip ss (drop (suc j) (drop start scores))) (drop-drop (suc j) start scopes ∙ ap (λ n. drop n scopes) behind)
    ∙ ap (zip (drop (parent + 1) scopes)) (drop-drop (suc j) start scores ∙ ap (λ n. drop n scores) behind)))

four : (xs ys zs : List (Option ℕ)) (w : Option ℕ) (ws : List (Option ℕ)) → (((xs ++ ys) ++ zs) ++ (w ∷ [])) ++ ws ≡ xs ++ (ys ++ (zs ++ (w ∷ ws)))
four xs ys zs w ws = append_assoc ((xs ++ ys) ++ zs) (w ∷ []) ws ∙ append_assoc (xs ++ ys) zs (w ∷ ws) ∙ append_assoc xs ys (zs ++ (w ∷ ws))

one_more : (done : List (Option ℕ)) (parent : ℕ) → length done ≤ parent → padded (parent + 1) done ≡ padded parent done ++ (None ∷ [])
one_more done parent h =
    let one : parent + 1 - parent ≡ 1 = omega arith in
    sym (padded_more done parent (parent + 1) h (omega arith)) ∙ ap (λ n. padded parent done ++ replicate n None) one

-- with the documents inside the parent given its score, or none given
pub spreading_more : (outer inner : ℕ) → outer ≢ inner → (scopes : List ℕ) (scores done new : List (Option ℕ)) (from parent start : ℕ) → Spreading outer inner scopes scores done from
    → length scopes ≡ length scores → Reached outer scopes scores from parent start
    → padded parent new ≡ padded start done ++ filled (get_or scores parent None) (take (parent - start) (drop start (documents_of scopes inner)))
    → length new ≤ parent → Spreading outer inner scopes scores new (parent + 1)
spreading_more outer inner apart scopes scores done new from parent start it long at given behind =
    let given_here = filled (get_or scores parent None) (take (parent - start) (drop start (documents_of scopes inner))) in
    let rest = spread outer inner (zip (drop (parent + 1) scopes) (drop (parent + 1) scores)) in
    record {
      goes =
          ap (λ (ss : List (Option ℕ)). ss ++ rest)
          (one_more new parent behind
          ∙ ap (λ (ss : List (Option ℕ)). ss ++ (None ∷ [])) (given ∙ ap (λ (ss : List (Option ℕ)). ss ++ given_here) (sym (padded_more done from start it.behind at.later))))
          ∙ four (padded from done) (replicate (start - from) None) given_here None rest
          ∙ ap (λ (ss : List (Option ℕ)). padded from done ++ ss) (sym (spread_step outer inner apart scopes scores from parent start at long))
          ∙ it.goes;
      behind = omega (arith, behind);
      within = omega (arith, at.within);
      edge = λ h. let same : parent + 1 - 1 ≡ parent = omega arith in rw same at.own;
    }

filled_none : (flags : List Bool) → filled None flags ≡ replicate (length flags) None
filled_none [] = refl
filled_none (true ∷ flags) = ap (λ (ss : List (Option ℕ)). None ∷ ss) (filled_none flags)
filled_none (false ∷ flags) = ap (λ (ss : List (Option ℕ)). None ∷ ss) (filled_none flags)

pub spreading_ends : (outer inner : ℕ) → outer ≢ inner → (scopes : List ℕ) (scores done : List (Option ℕ)) (from : ℕ) → Spreading outer inner scopes scores done from
    → length scopes ≡ length scores → next_parent (documents_of scopes outer) from scores ≡ None → padded (length scores) done ≡ spread outer inner (zip scopes scores)
spreading_ends outer inner apart scopes scores done from it long e =
    let ends = no_hit (documents_of scopes outer) from scores e in
    let same_long : length (drop from scopes) ≡ length (drop from scores) = omega (arith, long, length-drop from scopes, length-drop from scores) in
    let flags_are : drop (from + ends.quiet) (documents_of scopes outer) ≡ drop ends.quiet (map (has_scope outer) (drop from scopes)) =
    sym (drop-drop ends.quiet from (documents_of scopes outer)) ∙ ap (drop ends.quiet) (drop-map (has_scope outer) from scopes) in
    let free : NoneIn is_marked (length (drop ends.quiet (map (has_scope outer) (drop from scopes)))) (drop ends.quiet (map (has_scope outer) (drop from scopes))) = rw (← flags_are) ends.free in
    let left : length scores - from ≡ length (drop from scores) = omega (arith, length-drop from scores) in
    sym (padded_more done from (length scores) it.behind it.within)
    ∙ ap (λ n. padded from done ++ replicate n None) left
    ∙ ap (λ (ss : List (Option ℕ)). padded from done ++ ss) (sym (quiet_ends outer inner apart ends.quiet (drop from scopes) (drop from scores) ends.none free same_long))
    ∙ it.goes

-- ---- what the parent itself tells

take_nil : {A : Type 0} (n : ℕ) → ◌≡◌ {A = List A} (take n []) []
take_nil zero = refl
take_nil (suc n) = refl

drop_take : {A : Type 0} (n m : ℕ) (xs : List A) → n ≤ m → drop n (take m xs) ≡ take (m - n) (drop n xs)
drop_take zero m xs h = let same : m ≡ m - 0 = omega arith in ap (λ k. take k xs) same
drop_take (suc n) zero xs h = absurd (omega (arith, h))
drop_take {A} (suc n) (suc m) [] h = sym (take_nil {A = A} (suc m - suc n))
drop_take (suc n) (suc m) (x ∷ xs) h =
    let same : m - n ≡ suc m - suc n = omega arith in drop_take n m xs (omega (arith, h)) ∙ ap (λ k. take k (drop n xs)) same

pub between_one : (scores : List (Option ℕ)) (at : ℕ) → at < length scores → between scores at (at + 1) ≡ option_to_list (get_or scores at None)
between_one scores at h =
    let one : at + 1 - at ≡ 1 = omega arith in
    ap (λ n. flat_map option_to_list (take n (drop at scores))) one
    ∙ ap (λ (ss : List (Option ℕ)). flat_map option_to_list (take 1 ss)) (drop-cons scores at None h)
    ∙ only (get_or scores at None)
  where
    only : (x : Option ℕ) → option_to_list x ++ [] ≡ option_to_list x
    only None = refl
    only (Some y) = refl

pub score_is : (x : Option ℕ) (score : ℕ) (rest : List ℕ) → option_to_list x ≡ score ∷ rest → x ≡ Some score
score_is None score rest e = absurd (cc)
score_is (Some y) score rest e = let same : y ≡ score = cc in ap Some same

pub none_is : (x : Option ℕ) → option_to_list x ≡ [] → x ≡ None
none_is None e = refl
none_is (Some y) e = absurd (cc)

pub spreading_hit : (outer inner : ℕ) → outer ≢ inner → (scopes : List ℕ) (scores done new : List (Option ℕ)) (from parent start score : ℕ) (rest : List ℕ) → Spreading outer inner scopes scores done from
    → length scopes ≡ length scores → Reached outer scopes scores from parent start → between scores parent (parent + 1) ≡ score ∷ rest
    → padded parent new ≡ padded start done ++ filled (Some score) (drop start (take parent (documents_of scopes inner)))
    → length new ≤ parent → Spreading outer inner scopes scores new (parent + 1)
spreading_hit outer inner apart scopes scores done new from parent start score rest it long at read given behind =
    let own : get_or scores parent None ≡ Some score = score_is (get_or scores parent None) score rest (sym (between_one scores parent at.within) ∙ read) in
    spreading_more outer inner apart scopes scores done new from parent start it long at
    (given
    ∙ ap (λ (bs : List Bool). padded start done ++ filled (Some score) bs) (drop_take start parent (documents_of scopes inner) at.start_within)
    ∙ ap (λ (x : Option ℕ). padded start done ++ filled x (take (parent - start) (drop start (documents_of scopes inner)))) (sym own))
    behind

pub spreading_none : (outer inner : ℕ) → outer ≢ inner → (scopes : List ℕ) (scores done : List (Option ℕ)) (from parent start : ℕ) → Spreading outer inner scopes scores done from
    → length scopes ≡ length scores → Reached outer scopes scores from parent start → between scores parent (parent + 1) ≡ [] → Spreading outer inner scopes scores done (parent + 1)
spreading_none outer inner apart scopes scores done from parent start it long at read =
    let own : get_or scores parent None ≡ None = none_is (get_or scores parent None) (sym (between_one scores parent at.within) ∙ read) in
    let flags = take (parent - start) (drop start (documents_of scopes inner)) in
    let size : length flags ≡ parent - start =
    length-take-le (parent - start) (drop start (documents_of scopes inner)) (omega (arith, at.within, at.start_within, long, length-drop start (documents_of scopes inner), length_flags inner scopes)) in
    let early : length done ≤ start = omega (arith, it.behind, at.later) in
    spreading_more outer inner apart scopes scores done done from parent start it long at
    (sym (padded_more done start parent early at.start_within)
    ∙ ap (λ n. padded start done ++ replicate n None) (sym size)
    ∙ ap (λ (ss : List (Option ℕ)). padded start done ++ ss) (sym (filled_none flags))
    ∙ ap (λ (x : Option ℕ). padded start done ++ filled x flags) (sym own))
    (omega (arith, early, at.start_within))
