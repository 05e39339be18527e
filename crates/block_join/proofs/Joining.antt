-- The join up, from parent to parent.
use Rattle.std.proofs.Common.{◌≡◌, ℕ, zero, suc, ◌+◌, ◌-◌, ◌<◌, ◌≤◌, Bool, true, false, eqb, List, [], ◌∷◌, ◌++◌, length, take, drop, replicate, map, Option, Some, None, is_some, refl, sym, ap, ◌∙◌, inl, inr, arith, append_assoc, append-nil, drop-drop, length-drop}
use Rattle.std.specs.List.{zip, flat_map, drop-map}
use Rattle.std.specs.Option.{option_to_list, option_and_then}
use Rattle.std.proofs.lemmas.Bool.{cases_Bool}
use Rattle.block_bits.specs.Blocks.{documents_of, has_scope}
use Rattle.block_bits.specs.Flags.{is_marked}
use Rattle.block_bits.specs.Places.{next_place}
use Rattle.score_math.specs.declared.score.ScoreMode.{ScoreMode}
use Rattle.score_math.specs.Scores.{mode_of}
use Rattle.block_join.specs.Joins.{joined}
use Rattle.block_join.specs.Kept.{next_parent}
use Rattle.block_join.specs.Scores.{between, padded}
use Rattle.block_join.proofs.Firsts.{NoneIn, FirstAt, first_at, none_at, none_before, first_within}
use Rattle.block_join.proofs.Built.{padded_more}

-- ---- the next parent

-- the next document that hits is `quiet` documents ahead, and its parent `more` documents after it
pub record HitAt (flags : List Bool) (from : ℕ) (scores : List (Option ℕ)) (parent : ℕ) : Type 0 where
  pub quiet : ℕ
  pub more : ℕ
  pub place : parent ≡ from + quiet + more
  pub none : NoneIn is_some quiet (drop from scores)
  pub first : FirstAt is_marked more (drop (from + quiet) flags)

hit_by : (flags : List Bool) (from : ℕ) (scores : List (Option ℕ)) (parent : ℕ) (next : Option ℕ) → next_place is_some from scores ≡ next
    → option_and_then (λ doc. next_place is_marked doc flags) next ≡ Some parent → HitAt flags from scores parent
hit_by flags from scores parent None e is = absurd (cc)
hit_by flags from scores parent (Some doc) e is =
    let found = first_at is_some from (drop from scores) doc e in
    let above = first_at is_marked doc (drop doc flags) parent is in
    record {
      quiet = found.ahead;
      more = above.ahead;
      place = omega (arith, found.place, above.place);
      none = none_before is_some found.ahead found.ahead (drop from scores) found.first (omega arith);
      first = rw (← found.place) above.first;
    }

pub hit_at : (flags : List Bool) (from : ℕ) (scores : List (Option ℕ)) (parent : ℕ) → next_parent flags from scores ≡ Some parent → HitAt flags from scores parent
hit_at flags from scores parent e = hit_by flags from scores parent (next_place is_some from scores) refl e

-- from the next document that hits on there is no parent
pub record NoHit (flags : List Bool) (from : ℕ) (scores : List (Option ℕ)) : Type 0 where
  pub quiet : ℕ
  pub none : NoneIn is_some quiet (drop from scores)
  pub free : NoneIn is_marked (length (drop (from + quiet) flags)) (drop (from + quiet) flags)

nothing : (xs : List Bool) → length xs ≡ 0 → NoneIn is_marked (length xs) xs
nothing [] e = tt
nothing (x ∷ xs) e = absurd (omega (arith, e))

no_hit_by : (flags : List Bool) (from : ℕ) (scores : List (Option ℕ)) (next : Option ℕ) → next_place is_some from scores ≡ next
    → option_and_then (λ doc. next_place is_marked doc flags) next ≡ None → NoHit flags from scores
no_hit_by flags from scores None e is =
    record {
      quiet = length flags;
      none = none_at is_some from (drop from scores) (length flags) e;
      free = nothing (drop (from + length flags) flags) (omega (arith, length-drop (from + length flags) flags));
    }
no_hit_by flags from scores (Some doc) e is =
    let found = first_at is_some from (drop from scores) doc e in
    record {
      quiet = found.ahead;
      none = none_before is_some found.ahead found.ahead (drop from scores) found.first (omega arith);
      free = rw (← found.place) (none_at is_marked doc (drop doc flags) (length (drop doc flags)) is);
    }

pub no_hit : (flags : List Bool) (from : ℕ) (scores : List (Option ℕ)) → next_parent flags from scores ≡ None → NoHit flags from scores
no_hit flags from scores e = no_hit_by flags from scores (next_place is_some from scores) refl e

-- ---- what the documents tell

abbrev pub told : List ℕ → List (Option ℕ) → List (ℕ × List ℕ)
told scopes scores = zip scopes (map option_to_list scores)

module _ (mode : ScoreMode) (to : ℕ) where
  abbrev pub join : List ℕ → List (ℕ × List ℕ) → List (Option ℕ)
  join since docs = joined (mode_of mode) None to since docs

  -- up to a parent
  jump : (k : ℕ) (since : List ℕ) (scopes : List ℕ) (scores : List (Option ℕ)) → FirstAt is_marked k (map (has_scope to) scopes) → length scopes ≡ length scores
      → join since (told scopes scores) ≡ replicate k None ++ (mode_of mode (since ++ flat_map option_to_list (take k scores)) ∷ join [] (told (drop (suc k) scopes) (drop (suc k) scores)))
  jump zero since [] scores h e = absurd h
  jump zero since (s ∷ scopes) [] h e = absurd (omega (arith, e))
  jump zero since (s ∷ scopes) (x ∷ scores) h e = rw (h, append-nil since) refl
  jump (suc k) since [] scores h e = absurd h
  jump (suc k) since (s ∷ scopes) [] h e = absurd (omega (arith, e))
  jump (suc k) since (s ∷ scopes) (x ∷ scores) h e =
      rw h.0
      (ap (λ (ss : List (Option ℕ)). None ∷ ss)
      (jump k (since ++ option_to_list x) scopes scores h.1 (omega (arith, e))
      ∙ ap (λ ts. replicate k None ++ (mode_of mode ts ∷ join [] (told (drop (suc k) scopes) (drop (suc k) scores)))) (append_assoc since (option_to_list x) (flat_map option_to_list (take k scores)))))

  -- over documents that tell nothing, and then up to a parent
  step : (k j n : ℕ) (scopes : List ℕ) (scores : List (Option ℕ)) → NoneIn is_some k scores → FirstAt is_marked j (drop k (map (has_scope to) scopes)) → length scopes ≡ length scores → n ≡ k + j
      → join [] (told scopes scores) ≡ replicate n None ++ (mode_of mode (flat_map option_to_list (take n scores)) ∷ join [] (told (drop (suc n) scopes) (drop (suc n) scores)))
  step zero j n scopes scores none h e sum =
      let same : n ≡ j = omega (arith, sum) in rw same (jump j [] scopes scores h e)
  step (suc k) j zero scopes scores none h e sum = absurd (omega (arith, sum))
  step (suc k) j (suc n) [] scores none h e sum = absurd (nowhere j h)
    where
      nowhere : (m : ℕ) → FirstAt is_marked m [] → ⊥
      nowhere zero x = x
      nowhere (suc m) x = x
  step (suc k) j (suc n) (s ∷ scopes) [] none h e sum = absurd (omega (arith, e))
  step (suc k) j (suc n) (s ∷ scopes) (Some x ∷ scores) none h e sum = absurd (let no : true ≡ false = none.0 in cc)
  step (suc k) j (suc n) (s ∷ scopes) (None ∷ scores) none h e sum =
      let rest = ap (λ (ss : List (Option ℕ)). None ∷ ss) (step k j n scopes scores none.1 h (omega (arith, e)) (omega (arith, sum))) in
      elim (cases_Bool (eqb s to)) [
        | inl here ↦ rw here rest
        | inr other ↦ rw other rest
      ]

  -- with no parent ahead
  free_ends : (since : List ℕ) (scopes : List ℕ) (scores : List (Option ℕ)) → NoneIn is_marked (length (map (has_scope to) scopes)) (map (has_scope to) scopes) → length scopes ≡ length scores
      → join since (told scopes scores) ≡ replicate (length scores) None
  free_ends since [] [] h e = refl
  free_ends since [] (x ∷ scores) h e = absurd (omega (arith, e))
  free_ends since (s ∷ scopes) [] h e = absurd (omega (arith, e))
  free_ends since (s ∷ scopes) (x ∷ scores) h e =
      rw h.0 (ap (λ (ss : List (Option ℕ)). None ∷ ss) (free_ends (since ++ option_to_list x) scopes scores h.1 (omega (arith, e))))

  quiet_ends : (k : ℕ) (scopes : List ℕ) (scores : List (Option ℕ)) → NoneIn is_some k scores → NoneIn is_marked (length (drop k (map (has_scope to) scopes))) (drop k (map (has_scope to) scopes))
      → length scopes ≡ length scores → join [] (told scopes scores) ≡ replicate (length scores) None
  quiet_ends zero scopes scores none h e = free_ends [] scopes scores h e
  quiet_ends (suc k) [] [] none h e = refl
  quiet_ends (suc k) [] (x ∷ scores) none h e = absurd (omega (arith, e))
  quiet_ends (suc k) (s ∷ scopes) [] none h e = absurd (omega (arith, e))
  quiet_ends (suc k) (s ∷ scopes) (Some x ∷ scores) none h e = absurd (let no : true ≡ false = none.0 in cc)
  quiet_ends (suc k) (s ∷ scopes) (None ∷ scores) none h e =
      let rest = ap (λ (ss : List (Option ℕ)). None ∷ ss) (quiet_ends k scopes scores none.1 h (omega (arith, e))) in
      elim (cases_Bool (eqb s to)) [
        | inl here ↦ rw here rest
        | inr other ↦ rw other rest
      ]

-- ---- the loop

-- from document `from` on the join is still to be made
pub record Joining (mode : ScoreMode) (to : ℕ) (scopes : List ℕ) (scores done : List (Option ℕ)) (from : ℕ) : Type 0 where
  pub goes : padded from done ++ joined (mode_of mode) None to [] (zip (drop from scopes) (map option_to_list (drop from scores))) ≡ joined (mode_of mode) None to [] (zip scopes (map option_to_list scores))
  pub behind : length done ≤ from
  pub within : from ≤ length scores

pub joining_starts : (mode : ScoreMode) (to : ℕ) (scopes : List ℕ) (scores : List (Option ℕ)) → Joining mode to scopes scores [] 0
joining_starts mode to scopes scores = record { goes = refl; behind = omega arith; within = omega arith }

three : (xs ys : List (Option ℕ)) (z : Option ℕ) (zs : List (Option ℕ)) → ((xs ++ ys) ++ (z ∷ [])) ++ zs ≡ xs ++ (ys ++ (z ∷ zs))
three xs ys z zs = append_assoc (xs ++ ys) (z ∷ []) zs ∙ append_assoc xs ys (z ∷ zs)

pub joining_more : (mode : ScoreMode) (to : ℕ) (scopes : List ℕ) (scores done new : List (Option ℕ)) (from parent : ℕ) (score : Option ℕ) → Joining mode to scopes scores done from
    → length scopes ≡ length scores → next_parent (documents_of scopes to) from scores ≡ Some parent → score ≡ mode_of mode (between scores from parent)
    → padded (parent + 1) new ≡ padded parent done ++ (score ∷ []) → length new ≤ parent + 1 → Joining mode to scopes scores new (parent + 1)
joining_more mode to scopes scores done new from parent score it long e is put behind =
    let hit = hit_at (documents_of scopes to) from scores parent e in
    let n : ℕ = parent - from in
    let sum : n ≡ hit.quiet + hit.more = omega (arith, hit.place) in
    let next : from + suc n ≡ parent + 1 = omega (arith, hit.place) in
    let scopes_left = drop from scopes in
    let scores_left = drop from scores in
    let same_long : length scopes_left ≡ length scores_left = omega (arith, long, length-drop from scopes, length-drop from scores) in
    let flags_are : drop (from + hit.quiet) (documents_of scopes to) ≡ drop hit.quiet (map (has_scope to) scopes_left) =
    sym (drop-drop hit.quiet from (documents_of scopes to)) ∙ ap (drop hit.quiet) (drop-map (has_scope to) from scopes) in
    let found : FirstAt is_marked hit.more (drop hit.quiet (map (has_scope to) scopes_left)) = rw (← flags_are) hit.first in
    let stepped = step mode to hit.quiet hit.more n scopes_left scores_left hit.none found same_long sum in
    let rest : joined (mode_of mode) None to [] (zip (drop (parent + 1) scopes) (map option_to_list (drop (parent + 1) scores)))
    ≡ joined (mode_of mode) None to [] (zip (drop (suc n) scopes_left) (map option_to_list (drop (suc n) scores_left))) =
    ap (λ m. joined (mode_of mode) None to [] (zip (drop m scopes) (map option_to_list (drop m scores)))) (sym next)
    ∙ ap (λ (ss : List ℕ). joined (mode_of mode) None to [] (zip ss (map option_to_list (drop (from + suc n) scores)))) (sym (drop-drop (suc n) from scopes))
    ∙ ap (λ (ss : List (Option ℕ)). joined (mode_of mode) None to [] (zip (drop (suc n) scopes_left) (map option_to_list ss))) (sym (drop-drop (suc n) from scores)) in
    record {
      goes =
          ap (λ (ss : List (Option ℕ)). ss ++ joined (mode_of mode) None to [] (zip (drop (parent + 1) scopes) (map option_to_list (drop (parent + 1) scores))))
          (put ∙ ap (λ (ss : List (Option ℕ)). ss ++ (score ∷ [])) (sym (padded_more done from parent it.behind (omega (arith, hit.place)))))
          ∙ three (padded from done) (replicate n None) score (joined (mode_of mode) None to [] (zip (drop (parent + 1) scopes) (map option_to_list (drop (parent + 1) scores))))
          ∙ ap (λ (ss : List (Option ℕ)). padded from done ++ (replicate n None ++ (score ∷ ss))) rest
          ∙ ap (λ s. padded from done ++ (replicate n None ++ (s ∷ joined (mode_of mode) None to [] (zip (drop (suc n) scopes_left) (map option_to_list (drop (suc n) scores_left)))))) is
          ∙ ap (λ (ss : List (Option ℕ)). padded from done ++ ss) (sym stepped)
          ∙ it.goes;
      behind = behind;
      within =
          let inner : hit.more < length (drop (from + hit.quiet) (documents_of scopes to)) = first_within is_marked hit.more (drop (from + hit.quiet) (documents_of scopes to)) hit.first in
          omega (arith, inner, hit.place, length-drop (from + hit.quiet) (documents_of scopes to), length_flags scopes, long);
    }
  where
    length_flags : (ss : List ℕ) → length (documents_of ss to) ≡ length ss
    length_flags [] = refl
    length_flags (s ∷ ss) = ap suc (length_flags ss)

pub joining_ends : (mode : ScoreMode) (to : ℕ) (scopes : List ℕ) (scores done : List (Option ℕ)) (from : ℕ) → Joining mode to scopes scores done from
    → length scopes ≡ length scores → next_parent (documents_of scopes to) from scores ≡ None → padded (length scores) done ≡ joined (mode_of mode) None to [] (zip scopes (map option_to_list scores))
joining_ends mode to scopes scores done from it long e =
    let ends = no_hit (documents_of scopes to) from scores e in
    let same_long : length (drop from scopes) ≡ length (drop from scores) = omega (arith, long, length-drop from scopes, length-drop from scores) in
    let flags_are : drop (from + ends.quiet) (documents_of scopes to) ≡ drop ends.quiet (map (has_scope to) (drop from scopes)) =
    sym (drop-drop ends.quiet from (documents_of scopes to)) ∙ ap (drop ends.quiet) (drop-map (has_scope to) from scopes) in
    let free : NoneIn is_marked (length (drop ends.quiet (map (has_scope to) (drop from scopes)))) (drop ends.quiet (map (has_scope to) (drop from scopes))) = rw (← flags_are) ends.free in
    let left : length scores - from ≡ length (drop from scores) = omega (arith, length-drop from scores) in
    sym (padded_more done from (length scores) it.behind it.within)
    ∙ ap (λ n. padded from done ++ replicate n None) left
    ∙ ap (λ (ss : List (Option ℕ)). padded from done ++ ss) (sym (quiet_ends mode to ends.quiet (drop from scopes) (drop from scores) ends.none free same_long))
    ∙ it.goes
