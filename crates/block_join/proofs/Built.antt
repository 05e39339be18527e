-- Scores as they are given in order.
use Rattle.std.proofs.Common.{◌≡◌, ℕ, zero, suc, subst, ◌^◌, ◌+◌, ◌-◌, ◌<◌, ◌≤◌, Bool, true, false, List, [], ◌∷◌, ◌++◌, length, take, drop, replicate, set, Option, Some, None, Result, Ok, Err, OnErr, inl, inr, refl, sym, ap, ◌∙◌, arith, take-append-drop, drop-drop, length-set, length-append, length-take-le, append_assoc, drop-set-lt}
use Rattle.std.proofs.lemmas.List.{length-replicate}
use Rattle.std.proofs.lemmas.Bool.{cases_lt}
use Rattle.score_math.specs.declared.score.TheConstants.{SCORE_CAP}
use Rattle.block_join.specs.declared.scores.Scores.{Scores}
use Rattle.block_join.specs.declared.scores.Scores.TheVariants.{Same}
use Rattle.block_join.specs.Kept.{shown, score_of, marks, IsLong, IsBegun}
use Rattle.block_join.specs.Scores.{Begun, padded}
use Rattle.block_join.proofs.Shown.{length_shown, shown_drop, shown_alike, shown_false, shown_put, marks_put, marks_parts, marks_le, marks_false}

repeated : {A : Type 0} (n m : ℕ) (a : A) → replicate n a ++ replicate m a ≡ replicate (m + n) a
repeated zero m a = ap (λ k. replicate k a) (omega arith)
repeated (suc n) m a =
    let next : suc (m + n) ≡ m + suc n = omega arith in ap (λ xs. a ∷ xs) (repeated n m a) ∙ ap (λ k. replicate k a) next

-- padding goes on from where it is
pub padded_more : (done : List (Option ℕ)) (from end : ℕ) → length done ≤ from → from ≤ end → padded from done ++ replicate (end - from) None ≡ padded end done
padded_more done from end h le =
    let sum : (end - from) + (from - length done) ≡ end - length done = omega arith in
    append_assoc done (replicate (from - length done) None) (replicate (end - from) None)
    ∙ ap (λ (ss : List (Option ℕ)). done ++ ss) (repeated (from - length done) (end - from) None ∙ ap (λ n. replicate n None) sum)

pub length_padded : (done : List (Option ℕ)) (end : ℕ) → length done ≤ end → length (padded end done) ≡ end
length_padded done end h = length-append done (replicate (end - length done) None) ∙ omega (arith, length-replicate {A = Option ℕ} (end - length done) None)

pub padded_all : (done : List (Option ℕ)) (end : ℕ) → length done ≡ end → padded end done ≡ done
padded_all done end e =
    let none : end - length done ≡ 0 = omega (arith, e) in
    ap (λ n. done ++ replicate n None) none ∙ nil done
  where
    nil : (xs : List (Option ℕ)) → xs ++ [] ≡ xs
    nil [] = refl
    nil (x ∷ xs) = ap (λ ys. x ∷ ys) (nil xs)

take_none : (n m : ℕ) → n ≤ m → ◌≡◌ {A = List (Option ℕ)} (take n (replicate m None)) (replicate n None)
take_none zero m h = refl
take_none (suc n) zero h = absurd (omega arith)
take_none (suc n) (suc m) h = ap (λ (ss : List (Option ℕ)). None ∷ ss) (take_none n m (omega arith))

take_past : (xs : List (Option ℕ)) (n m : ℕ) → length xs ≤ n → n ≤ length xs + m → take n (xs ++ replicate m None) ≡ xs ++ replicate (n - length xs) None
take_past [] n m h le =
    let all : n ≡ n - 0 = omega arith in take_none n m (omega (arith, le)) ∙ ap (λ k. replicate k None) all
take_past (x ∷ xs) zero m h le = absurd (omega arith)
take_past (x ∷ xs) (suc n) m h le =
    let less : suc n - suc (length xs) ≡ n - length xs = omega arith in
    rw less (ap (λ (ss : List (Option ℕ)). x ∷ ss) (take_past xs n m (omega arith) (omega arith)))

module _ (flags : List Bool) (scores : Scores) (end count : ℕ) (it : IsBegun flags scores end count) where
  pub done_long : length (take end (shown (score_of scores) 0 flags)) ≡ end
  done_long = length-take-le end (shown (score_of scores) 0 flags) (omega (arith, it.within, length_shown (score_of scores) 0 flags))

  -- all documents are those that were given and then none
  pub shown_begun : shown (score_of scores) 0 flags ≡ take end (shown (score_of scores) 0 flags) ++ replicate (length flags - end) None
  shown_begun =
      sym (take-append-drop end (shown (score_of scores) 0 flags))
      ∙ ap (λ (ss : List (Option ℕ)). take end (shown (score_of scores) 0 flags) ++ ss)
      (shown_drop (score_of scores) 0 end flags ∙ ap (shown (score_of scores) (0 + marks (take end flags))) it.rest ∙ shown_false (score_of scores) (0 + marks (take end flags)) (length flags - end))

  pub shown_up_to : (doc : ℕ) → end ≤ doc → doc ≤ length flags → take doc (shown (score_of scores) 0 flags) ≡ padded doc (take end (shown (score_of scores) 0 flags))
  shown_up_to doc h le =
      ap (take doc) shown_begun ∙ take_past (take end (shown (score_of scores) 0 flags)) doc (length flags - end) (omega (arith, done_long)) (omega (arith, done_long, it.within))

  pub shown_all : shown (score_of scores) 0 flags ≡ padded (length flags) (take end (shown (score_of scores) 0 flags))
  shown_all = shown_begun ∙ ap (λ n. take end (shown (score_of scores) 0 flags) ++ replicate (length flags - n) None) (sym done_long)

  pub rest_from : (doc : ℕ) → end ≤ doc → marks (drop doc flags) ≡ 0
  rest_from doc h =
      let sum : end + (doc - end) ≡ doc = omega arith in
      let parts : marks (drop end flags) ≡ 0 = ap marks it.rest ∙ marks_false (length flags - end) in
      let later : drop (doc - end) (drop end flags) ≡ drop doc flags = drop-drop (doc - end) end flags ∙ ap (λ n. drop n flags) sum in
      omega (arith, parts, marks_parts (doc - end) (drop end flags), ap marks later)

drop_false : (m n : ℕ) → drop m (replicate n false) ≡ replicate (n - m) false
drop_false zero n = let all : n ≡ n - 0 = omega arith in ap (λ k. replicate k false) all
drop_false (suc m) zero = let none : 0 ≡ 0 - suc m = omega arith in ap (λ k. replicate k false) none
drop_false (suc m) (suc n) = let less : n - m ≡ suc n - suc m = omega arith in drop_false m n ∙ ap (λ k. replicate k false) less

pub begun_empty : (len : ℕ) → len < 2 ^ 32 → IsBegun (replicate len false) (Same 0) 0 0
begun_empty len small =
    let long : length (replicate len false) ≡ len = length-replicate len false in
    record {
      scores_are = record { long = tt; capped = λ k h. omega arith };
      within = omega arith;
      counted = sym (marks_false len);
      rest = ap (λ k. replicate k false) (omega (arith, long));
      small = omega (arith, long, small);
    }

pub begun_other : (flags : List Bool) (scores new : Scores) (end count : ℕ) → IsBegun flags scores end count → IsLong new count → ((k : ℕ) → score_of new k ≡ score_of scores k) → IsBegun flags new end count
begun_other flags scores new end count it long same = record {
  scores_are = record { long = rw (← it.counted) long; capped = λ k h. rw (same k) (it.scores_are.capped k h) };
  within = it.within;
  counted = it.counted;
  rest = it.rest;
  small = it.small;
}

module _ (flags : List Bool) (scores new : Scores) (end count doc score : ℕ) (it : IsBegun flags scores end count) (later : end ≤ doc) (within : doc < length flags) (capped : score ≤ SCORE_CAP)
    (long : IsLong new (count + 1)) (own : score_of new count ≡ score) (others : (k : ℕ) → k < count → score_of new k ≡ score_of scores k) where
  put_marks : marks (set flags doc true) ≡ count + 1
  put_marks = omega (arith, it.counted, marks_put doc flags within (rest_from flags scores end count it doc later))

  pub begun_more : IsBegun (set flags doc true) new (doc + 1) (count + 1)
  begun_more = record {
    scores_are = record {
      long = rw put_marks long;
      capped = λ k h. elim (cases_lt k count) [
        | inl below ↦ rw (others k below) (it.scores_are.capped k (omega (arith, below, it.counted)))
        | inr on ↦ let same : k ≡ count = omega (arith, on, h, put_marks) in rw (same, own) capped
      ];
    };
    within = omega (arith, within, length-set flags doc true);
    counted = sym put_marks;
    rest =
        let sum : end + (doc + 1 - end) ≡ doc + 1 = omega (arith, later) in
        let size : length flags - end - (doc + 1 - end) ≡ length (set flags doc true) - (doc + 1) = omega (arith, later, within, length-set flags doc true) in
        drop-set-lt (doc + 1) flags doc true (omega arith)
        ∙ ap (λ n. drop n flags) (sym sum) ∙ sym (drop-drop (doc + 1 - end) end flags)
        ∙ ap (drop (doc + 1 - end)) it.rest ∙ drop_false (doc + 1 - end) (length flags - end) ∙ ap (λ k. replicate k false) size;
    small = omega (arith, it.small, length-set flags doc true);
  }

  pub pushed_done : take (doc + 1) (shown (score_of new) 0 (set flags doc true)) ≡ padded doc (take end (shown (score_of scores) 0 flags)) ++ (Some score ∷ [])
  pushed_done =
      let next : doc + 1 ≡ suc doc = omega arith in
      let place : 0 + marks (take doc flags) ≡ count = omega (arith, it.counted, marks_parts doc flags, rest_from flags scores end count it doc later) in
      ap (λ n. take n (shown (score_of new) 0 (set flags doc true))) next
      ∙ shown_put (score_of new) 0 doc flags within
      ∙ ap (λ n. take doc (shown (score_of new) 0 flags) ++ (Some n ∷ [])) (ap (score_of new) place ∙ own)
      ∙ ap (λ (ss : List (Option ℕ)). take doc ss ++ (Some score ∷ [])) (shown_alike (score_of new) (score_of scores) 0 flags (λ k h. others k (omega (arith, h, it.counted))))
      ∙ ap (λ (ss : List (Option ℕ)). ss ++ (Some score ∷ [])) (shown_up_to flags scores end count it doc later (omega (arith, within)))

-- no more documents are in the set than come before the next one
pub count_within : (flags : List Bool) (scores : Scores) (end count doc : ℕ) → IsBegun flags scores end count → end ≤ doc → doc < length flags → count ≤ doc
count_within flags scores end count doc it later within =
    omega (arith, it.counted, marks_parts doc flags, rest_from flags scores end count it doc later, marks_le (take doc flags), length-take-le doc flags (omega (arith, within)))

-- ---- the view

abbrev pub view_of : List Bool → Scores → ℕ → Begun
view_of flags scores end = record { done = take end (shown (score_of scores) 0 flags); len = length flags }

module _ (flags : List Bool) (scores : Scores) (end count : ℕ) (view : Begun) (it : IsBegun flags scores end count) (e : view_of flags scores end ≡ view) where
  pub view_end : length view.done ≡ end
  view_end = subst (λ (v : Begun). length v.done ≡ end) e (done_long flags scores end count it)

  pub view_len : view.len ≡ length flags
  view_len = sym (ap (λ (v : Begun). v.len) e)

  pub finished : shown (score_of scores) 0 flags ≡ padded view.len view.done
  finished = subst (λ (v : Begun). shown (score_of scores) 0 flags ≡ padded v.len v.done) e (shown_all flags scores end count it)

  pub begun_same : (new : Scores) → ((k : ℕ) → score_of new k ≡ score_of scores k) → view_of flags new end ≡ view
  begun_same new same =
      ap (λ (ss : List (Option ℕ)). record { done = take end ss; len = length flags }) (shown_alike (score_of new) (score_of scores) 0 flags (λ k h. same k)) ∙ e

-- what holds anyway holds after an error
pub on_err : {T E : Type 0} (result : Result T E) (holds : Type 0) → holds → OnErr result holds
on_err (Ok x) holds h = tt
on_err (Err e) holds h = h
