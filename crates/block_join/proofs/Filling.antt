-- One score given to the documents of a set, one after the other.
use Rattle.std.proofs.Common.{◌≡◌, ℕ, zero, suc, ◌+◌, ◌-◌, ◌<◌, ◌≤◌, Bool, true, false, List, [], ◌∷◌, ◌++◌, length, drop, replicate, Option, Some, None, refl, sym, ap, ◌∙◌, arith, drop-drop, length-drop, append_assoc}
use Rattle.block_bits.specs.Flags.{is_marked}
use Rattle.block_bits.specs.Places.{next_place}
use Rattle.block_join.specs.Scores.{filled, padded}
use Rattle.block_join.proofs.Firsts.{NoneIn, FirstAt, first_at, none_at}
use Rattle.block_join.proofs.Built.{padded_more, padded_all, length_padded}

-- from document `at` on the set's documents are still to be given the score
pub record Filling (score : ℕ) (flags : List Bool) (done now : List (Option ℕ)) (start at end : ℕ) : Type 0 where
  pub goes : padded at now ++ filled (Some score) (drop at flags) ≡ padded start done ++ filled (Some score) (drop start flags)
  pub behind : length now ≤ at
  pub within : at ≤ end

filled_first : (score : ℕ) (k : ℕ) (flags : List Bool) → FirstAt is_marked k flags
    → filled (Some score) flags ≡ replicate k None ++ (Some score ∷ filled (Some score) (drop (suc k) flags))
filled_first score zero [] h = absurd h
filled_first score zero (true ∷ flags) h = refl
filled_first score zero (false ∷ flags) h = absurd (cc)
filled_first score (suc k) [] h = absurd h
filled_first score (suc k) (true ∷ flags) h = absurd (let none : true ≡ false = h.0 in cc)
filled_first score (suc k) (false ∷ flags) h = ap (λ (ss : List (Option ℕ)). None ∷ ss) (filled_first score k flags h.1)

filled_none : (score : ℕ) (flags : List Bool) → NoneIn is_marked (length flags) flags → filled (Some score) flags ≡ replicate (length flags) None
filled_none score [] h = refl
filled_none score (true ∷ flags) h = absurd (let none : true ≡ false = h.0 in cc)
filled_none score (false ∷ flags) h = ap (λ (ss : List (Option ℕ)). None ∷ ss) (filled_none score flags h.1)

pub filling_starts : (score : ℕ) (flags : List Bool) (done : List (Option ℕ)) (start end : ℕ) → length done ≤ start → start ≤ end → Filling score flags done done start start end
filling_starts score flags done start end behind within = record { goes = refl; behind = behind; within = within }

pub filling_more : (score : ℕ) (flags : List Bool) (done now new : List (Option ℕ)) (start at end child : ℕ) → Filling score flags done now start at end
    → next_place is_marked at flags ≡ Some child → child < end → new ≡ padded child now ++ (Some score ∷ []) → Filling score flags done new start (child + 1) end
filling_more score flags done now new start at end child it e h pushed =
    let found = first_at is_marked at (drop at flags) child e in
    let k = found.ahead in
    let ahead : child - at ≡ k = omega (arith, found.place) in
    let long : length (padded child now) ≡ child = length_padded now child (omega (arith, it.behind, found.place)) in
    let more : length new ≡ child + 1 = ap length pushed ∙ length_snoc (padded child now) (Some score) ∙ ap (λ n. n + 1) long in
    let next : at + suc k ≡ child + 1 = omega (arith, found.place) in
    let rest = filled (Some score) (drop (child + 1) flags) in
    record {
      goes =
          ap (λ (ss : List (Option ℕ)). ss ++ rest) (padded_all new (child + 1) more ∙ pushed ∙ ap (λ (ss : List (Option ℕ)). ss ++ (Some score ∷ [])) (sym (padded_more now at child it.behind (omega (arith, found.place)))))
          ∙ four (padded at now) (replicate (child - at) None) (Some score) rest
          ∙ ap (λ n. padded at now ++ (replicate n None ++ (Some score ∷ rest))) ahead
          ∙ ap (λ (bs : List Bool). padded at now ++ (replicate k None ++ (Some score ∷ filled (Some score) bs))) (ap (λ n. drop n flags) (sym next) ∙ sym (drop-drop (suc k) at flags))
          ∙ ap (λ (ss : List (Option ℕ)). padded at now ++ ss) (sym (filled_first score k (drop at flags) found.first))
          ∙ it.goes;
      behind = omega (arith, more);
      within = omega (arith, h);
    }
  where
    length_snoc : (xs : List (Option ℕ)) (x : Option ℕ) → length (xs ++ (x ∷ [])) ≡ length xs + 1
    length_snoc [] x = refl
    length_snoc (y ∷ xs) x = omega (arith, length_snoc xs x)

    four : (xs bs : List (Option ℕ)) (c : Option ℕ) (ds : List (Option ℕ)) → ((xs ++ bs) ++ (c ∷ [])) ++ ds ≡ xs ++ (bs ++ (c ∷ ds))
    four xs bs c ds = append_assoc (xs ++ bs) (c ∷ []) ds ∙ append_assoc xs bs (c ∷ ds)

pub filling_ends : (score : ℕ) (flags : List Bool) (done now : List (Option ℕ)) (start at end : ℕ) → Filling score flags done now start at end
    → next_place is_marked at flags ≡ None → length flags ≡ end → padded end now ≡ padded start done ++ filled (Some score) (drop start flags)
filling_ends score flags done now start at end it e long =
    let left : length (drop at flags) ≡ end - at = omega (arith, length-drop at flags, long) in
    let none = none_at is_marked at (drop at flags) (length (drop at flags)) e in
    sym (padded_more now at end it.behind it.within)
    ∙ ap (λ n. padded at now ++ replicate n None) (sym left)
    ∙ ap (λ (ss : List (Option ℕ)). padded at now ++ ss) (sym (filled_none score (drop at flags) none))
    ∙ it.goes
