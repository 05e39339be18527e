-- A walk from posting to posting: each that comes before `to` is passed.
use Rattle.std.proofs.Common.{◌≡◌, ℕ, ◌+◌, ◌<◌, ◌≤◌, Bool, true, false, not, nat_le, min, List, [], ◌∷◌, length, get_or, drop, Some, None, slice_get, sym, ap, ◌∙◌, arith, inl, inr, cond}
use Rattle.std.specs.List.{position_or_len}
use Rattle.std.specs.Option.{option_map}
use Rattle.std.proofs.lemmas.Bool.{cases_lt}
use Rattle.std.proofs.lemmas.Bool.Decides.{nat_tests}
use Rattle.std.proofs.lemmas.List.{drop_more, drop_all}
use Rattle.std.proofs.lemmas.Option.{slice_get-get_or, slice_get_past, none-some, same_Some}
use Rattle.postings.specs.Postings.{Standing, present_document, place_from}

-- the present document is that of the posting at the cursor's place
pub present_at : (cursor : Standing) (own : ℕ) (d : ℕ × List ℕ) → present_document cursor ≡ Some own → (cursor.at < length cursor.postings) × ((get_or cursor.postings cursor.at d).0 ≡ own)
present_at cursor own d is =
    elim (cases_lt cursor.at (length cursor.postings)) [
      | inl inside ↦
          let there : slice_get cursor.postings cursor.at ≡ Some (get_or cursor.postings cursor.at d) = slice_get-get_or cursor.postings cursor.at d inside in
          (inside, same_Some (get_or cursor.postings cursor.at d).0 own (sym (ap (option_map (λ (posting : ℕ × List ℕ). posting.0)) there) ∙ is))
      | inr past ↦ absurd (none-some own (sym (ap (option_map (λ (posting : ℕ × List ℕ). posting.0)) (slice_get_past cursor.postings cursor.at past)) ∙ is))
    ]

pub present_none : (cursor : Standing) → present_document cursor ≡ None → length cursor.postings ≤ cursor.at
present_none cursor none =
    elim (cases_lt cursor.at (length cursor.postings)) [
      | inl inside ↦
          let d : ℕ × List ℕ = (0, []) in
          let there : slice_get cursor.postings cursor.at ≡ Some (get_or cursor.postings cursor.at d) = slice_get-get_or cursor.postings cursor.at d inside in
          absurd (none-some (get_or cursor.postings cursor.at d).0 (sym none ∙ ap (option_map (λ (posting : ℕ × List ℕ). posting.0)) there))
      | inr past ↦ past
    ]

front : (cursor : Standing) (d : ℕ × List ℕ) → cursor.at < length cursor.postings → drop cursor.at cursor.postings ≡ get_or cursor.postings cursor.at d ∷ drop (cursor.at + 1) cursor.postings
front cursor d inside = drop_more cursor.postings cursor.at d inside

-- a present document from `to` on is the first
pub place_here : (to : ℕ) (cursor : Standing) (own : ℕ) → present_document cursor ≡ Some own → to ≤ own → place_from to cursor ≡ cursor.at
place_here to cursor own is reached =
    let d : ℕ × List ℕ = (0, []) in
    let here = present_at cursor own d is in
    let passes : nat_le to (get_or cursor.postings cursor.at d).0 ≡ true = grind (arith, nat_tests, reached, here.1) in
    let first : position_or_len (λ (posting : ℕ × List ℕ). nat_le to posting.0) (drop cursor.at cursor.postings) ≡ 0 =
    ap (position_or_len (λ (posting : ℕ × List ℕ). nat_le to posting.0)) (front cursor d here.0)
    ∙ ap (λ (test : Bool). cond (not test) (1 + position_or_len (λ (posting : ℕ × List ℕ). nat_le to posting.0) (drop (cursor.at + 1) cursor.postings)) 0) passes in
    omega (arith, first)

-- one that comes before `to` is passed
pub place_past : (to : ℕ) (cursor next : Standing) (own : ℕ) → present_document cursor ≡ Some own → own < to → next.postings ≡ cursor.postings → next.at ≡ min (cursor.at + 1) (length cursor.postings) → place_from to next ≡ place_from to cursor
place_past to cursor next own is below same step =
    let d : ℕ × List ℕ = (0, []) in
    let here = present_at cursor own d is in
    let fails : nat_le to (get_or cursor.postings cursor.at d).0 ≡ false = grind (arith, nat_tests, below, here.1) in
    let first : position_or_len (λ (posting : ℕ × List ℕ). nat_le to posting.0) (drop cursor.at cursor.postings) ≡ 1 + position_or_len (λ (posting : ℕ × List ℕ). nat_le to posting.0) (drop (cursor.at + 1) cursor.postings) =
    ap (position_or_len (λ (posting : ℕ × List ℕ). nat_le to posting.0)) (front cursor d here.0)
    ∙ ap (λ (test : Bool). cond (not test) (1 + position_or_len (λ (posting : ℕ × List ℕ). nat_le to posting.0) (drop (cursor.at + 1) cursor.postings)) 0) fails in
    let at : next.at ≡ cursor.at + 1 = omega (arith, step, here.0) in
    let left : position_or_len (λ (posting : ℕ × List ℕ). nat_le to posting.0) (drop next.at next.postings) ≡ position_or_len (λ (posting : ℕ × List ℕ). nat_le to posting.0) (drop (cursor.at + 1) cursor.postings) =
    ap (λ (list : List (ℕ × List ℕ)). position_or_len (λ (posting : ℕ × List ℕ). nat_le to posting.0) (drop next.at list)) same
    ∙ ap (λ n. position_or_len (λ (posting : ℕ × List ℕ). nat_le to posting.0) (drop n cursor.postings)) at in
    omega (arith, first, at, left)

-- past the last there is none
pub place_end : (to : ℕ) (cursor : Standing) → present_document cursor ≡ None → place_from to cursor ≡ cursor.at
place_end to cursor none =
    let gone : position_or_len (λ (posting : ℕ × List ℕ). nat_le to posting.0) (drop cursor.at cursor.postings) ≡ 0 =
    ap (position_or_len (λ (posting : ℕ × List ℕ). nat_le to posting.0)) (drop_all cursor.at cursor.postings (present_none cursor none)) in
    omega (arith, gone)
