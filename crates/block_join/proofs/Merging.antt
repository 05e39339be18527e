-- Scores of two lists put together, from one document that has a score to the next.
use Rattle.std.proofs.Common.{◌≡◌, ℕ, zero, suc, ◌+◌, ◌-◌, ◌<◌, ◌≤◌, min, max, true, false, List, [], ◌∷◌, ◌++◌, length, drop, get_or, replicate, Option, Some, None, is_some, refl, sym, ap, ◌∙◌, inl, inr, arith, append_assoc, drop-cons, drop-drop, length-drop}
use Rattle.std.specs.Prelude.{⊤}
use Rattle.std.proofs.lemmas.Bool.{cases_lt}
use Rattle.block_bits.specs.Places.{next_place}
use Rattle.block_join.specs.Kept.{earlier, later, next_by}
use Rattle.block_join.specs.Merge.{paired, put_together}
use Rattle.block_join.specs.declared.rule.Rule.{Rule}
use Rattle.block_join.specs.declared.rule.Rule.TheVariants.{Both, Kept, Without, Plus, Either, Greatest, Counted, AtLeast}
use Rattle.block_join.specs.Scores.{between, padded}
use Rattle.block_join.proofs.Firsts.{NoneIn, first_at, none_at, none_before}
use Rattle.block_join.proofs.Built.{padded_more}
use Rattle.block_join.proofs.Spreading.{between_one, score_is, none_is}

-- ---- one document

-- what is read at one document
pub read_none : (scores : List (Option ℕ)) (doc : ℕ) → doc < length scores → between scores doc (doc + 1) ≡ [] → None ≡ get_or scores doc None
read_none scores doc h e = sym (none_is (get_or scores doc None) (sym (between_one scores doc h) ∙ e))

pub read_some : (scores : List (Option ℕ)) (doc score : ℕ) (rest : List ℕ) → doc < length scores → between scores doc (doc + 1) ≡ score ∷ rest → Some score ≡ get_or scores doc None
read_some scores doc score rest h e = sym (score_is (get_or scores doc None) score rest (sym (between_one scores doc h) ∙ e))

-- ---- up to the next document that has a score

quiet_to : (from doc : ℕ) (xs : List (Option ℕ)) (next : Option ℕ) → next_place is_some from xs ≡ next → ((d : ℕ) → next ≡ Some d → doc ≤ d) → NoneIn is_some (doc - from) (drop from xs)
quiet_to from doc xs None e low = none_at is_some from (drop from xs) (doc - from) e
quiet_to from doc xs (Some d) e low =
    let found = first_at is_some from (drop from xs) d e in
    none_before is_some (doc - from) found.ahead (drop from xs) found.first (omega (arith, low d refl, found.place))

-- the first so many pairs give nothing
abbrev Silent : (Option ℕ → Option ℕ → Option ℕ) → ℕ → List (Option ℕ) → List (Option ℕ) → Type 0
Silent f zero ones others = ⊤
Silent f (suc k) [] others = ⊤
Silent f (suc k) (a ∷ ones) [] = ⊤
Silent f (suc k) (a ∷ ones) (b ∷ others) = (f a b ≡ None) × Silent f k ones others

module _ (f : Option ℕ → Option ℕ → Option ℕ) where
  by_first : ((b : Option ℕ) → f None b ≡ None) → (k : ℕ) (ones others : List (Option ℕ)) → NoneIn is_some k ones → Silent f k ones others
  by_first silent zero ones others none = tt
  by_first silent (suc k) [] others none = tt
  by_first silent (suc k) (a ∷ ones) [] none = tt
  by_first silent (suc k) (Some a ∷ ones) (b ∷ others) none = absurd (let no : true ≡ false = none.0 in cc)
  by_first silent (suc k) (None ∷ ones) (b ∷ others) none = (silent b, by_first silent k ones others none.1)

  by_second : ((a : Option ℕ) → f a None ≡ None) → (k : ℕ) (ones others : List (Option ℕ)) → NoneIn is_some k others → Silent f k ones others
  by_second silent zero ones others none = tt
  by_second silent (suc k) [] others none = tt
  by_second silent (suc k) (a ∷ ones) [] none = tt
  by_second silent (suc k) (a ∷ ones) (Some b ∷ others) none = absurd (let no : true ≡ false = none.0 in cc)
  by_second silent (suc k) (a ∷ ones) (None ∷ others) none = (silent a, by_second silent k ones others none.1)

  by_both : f None None ≡ None → (k : ℕ) (ones others : List (Option ℕ)) → NoneIn is_some k ones → NoneIn is_some k others → Silent f k ones others
  by_both silent zero ones others one two = tt
  by_both silent (suc k) [] others one two = tt
  by_both silent (suc k) (a ∷ ones) [] one two = tt
  by_both silent (suc k) (Some a ∷ ones) (b ∷ others) one two = absurd (let no : true ≡ false = one.0 in cc)
  by_both silent (suc k) (None ∷ ones) (Some b ∷ others) one two = absurd (let no : true ≡ false = two.0 in cc)
  by_both silent (suc k) (None ∷ ones) (None ∷ others) one two = (silent, by_both silent k ones others one.1 two.1)

-- no later than the next document, if there is one
abbrev NotBehind : Option ℕ → ℕ → Type 0
NotBehind next doc = (d : ℕ) → next ≡ Some d → doc ≤ d

earlier_first : (a b : Option ℕ) (doc : ℕ) → NotBehind (earlier a b) doc → NotBehind a doc
earlier_first None b doc low d is = absurd (let no : ⊥ = cc in no)
earlier_first (Some x) None doc low d is = low d is
earlier_first (Some x) (Some y) doc low d is = let same : x ≡ d = cc in omega (arith, low (min x y) refl, same)

earlier_second : (a b : Option ℕ) (doc : ℕ) → NotBehind (earlier a b) doc → NotBehind b doc
earlier_second a None doc low d is = absurd (let no : ⊥ = cc in no)
earlier_second None (Some y) doc low d is = low d is
earlier_second (Some x) (Some y) doc low d is = let same : y ≡ d = cc in omega (arith, low (min x y) refl, same)

module _ (f : Option ℕ → Option ℕ → Option ℕ) (from doc : ℕ) (ones others : List (Option ℕ)) where
  -- one that both need
  later_silent : ((b : Option ℕ) → f None b ≡ None) → ((a : Option ℕ) → f a None ≡ None) → (a b : Option ℕ) → next_place is_some from ones ≡ a → next_place is_some from others ≡ b
      → NotBehind (later a b) doc → Silent f (doc - from) (drop from ones) (drop from others)
  later_silent first second None b one two low = by_first f first (doc - from) (drop from ones) (drop from others) (quiet_to from doc ones None one (λ d no. absurd (let none : ⊥ = cc in none)))
  later_silent first second (Some x) None one two low = by_second f second (doc - from) (drop from ones) (drop from others) (quiet_to from doc others None two (λ d no. absurd (let none : ⊥ = cc in none)))
  later_silent first second (Some x) (Some y) one two low = elim (cases_lt x doc) [
    | inr before ↦ by_first f first (doc - from) (drop from ones) (drop from others) (quiet_to from doc ones (Some x) one (λ d is. let same : x ≡ d = cc in omega (arith, before, same)))
    | inl behind ↦ by_second f second (doc - from) (drop from ones) (drop from others) (quiet_to from doc others (Some y) two (λ d is. let same : y ≡ d = cc in omega (arith, behind, same, low (max x y) refl)))
  ]

  first_silent : ((b : Option ℕ) → f None b ≡ None) → NotBehind (next_place is_some from ones) doc → Silent f (doc - from) (drop from ones) (drop from others)
  first_silent first low = by_first f first (doc - from) (drop from ones) (drop from others) (quiet_to from doc ones (next_place is_some from ones) refl low)

  earlier_silent : f None None ≡ None → NotBehind (earlier (next_place is_some from ones) (next_place is_some from others)) doc → Silent f (doc - from) (drop from ones) (drop from others)
  earlier_silent none low =
      let a = next_place is_some from ones in
      let b = next_place is_some from others in
      by_both f none (doc - from) (drop from ones) (drop from others) (quiet_to from doc ones a refl (earlier_first a b doc low)) (quiet_to from doc others b refl (earlier_second a b doc low))

both_second : (a : Option ℕ) → put_together Both a None ≡ None
both_second None = refl
both_second (Some a) = refl

kept_second : (a : Option ℕ) → put_together Kept a None ≡ None
kept_second None = refl
kept_second (Some a) = refl

-- before the next document that may have a score by the rule none has one
pub silent_to : (rule : Rule) (from doc : ℕ) (ones others : List (Option ℕ)) → NotBehind (next_by rule (next_place is_some from ones) (next_place is_some from others)) doc
    → Silent (put_together rule) (doc - from) (drop from ones) (drop from others)
silent_to Both from doc ones others low = later_silent (put_together Both) from doc ones others (λ b. refl) both_second (next_place is_some from ones) (next_place is_some from others) refl refl low
silent_to Kept from doc ones others low = later_silent (put_together Kept) from doc ones others (λ b. refl) kept_second (next_place is_some from ones) (next_place is_some from others) refl refl low
silent_to Without from doc ones others low = first_silent (put_together Without) from doc ones others (λ b. refl) low
silent_to Plus from doc ones others low = first_silent (put_together Plus) from doc ones others (λ b. refl) low
silent_to (AtLeast n) from doc ones others low = first_silent (put_together (AtLeast n)) from doc ones others (λ b. refl) low
silent_to Either from doc ones others low = earlier_silent (put_together Either) from doc ones others refl low
silent_to Greatest from doc ones others low = earlier_silent (put_together Greatest) from doc ones others refl low
silent_to Counted from doc ones others low = earlier_silent (put_together Counted) from doc ones others refl low

pub not_behind : (next : Option ℕ) (doc : ℕ) → next ≡ Some doc → NotBehind next doc
not_behind next doc is d same = let one : Some doc ≡ Some d = sym is ∙ same in let two : doc ≡ d = cc in omega (arith, two)

pub never_behind : (next : Option ℕ) (doc : ℕ) → next ≡ None → NotBehind next doc
never_behind next doc is d same = absurd (let one : None ≡ Some d = sym is ∙ same in let no : ⊥ = cc in no)

-- from document `from` on they are still to be put together
pub record Merging (f : Option ℕ → Option ℕ → Option ℕ) (ones others done : List (Option ℕ)) (from : ℕ) : Type 0 where
  pub goes : padded from done ++ paired f (drop from ones) (drop from others) ≡ paired f ones others
  pub behind : length done ≤ from
  pub within : from ≤ length ones

module _ (f : Option ℕ → Option ℕ → Option ℕ) where
  pub length_paired : (ones others : List (Option ℕ)) → length ones ≡ length others → length (paired f ones others) ≡ length ones
  length_paired [] others e = refl
  length_paired (a ∷ ones) [] e = absurd (omega (arith, e))
  length_paired (a ∷ ones) (b ∷ others) e = ap suc (length_paired ones others (omega (arith, e)))

  quiet : (k : ℕ) (ones others : List (Option ℕ)) → Silent f k ones others → length ones ≡ length others → k ≤ length ones → paired f ones others ≡ replicate k None ++ paired f (drop k ones) (drop k others)
  quiet zero ones others silent e le = refl
  quiet (suc k) [] others silent e le = absurd (omega (arith, le))
  quiet (suc k) (a ∷ ones) [] silent e le = absurd (omega (arith, e))
  quiet (suc k) (a ∷ ones) (b ∷ others) silent e le =
      ap (λ (x : Option ℕ). x ∷ paired f ones others) silent.0
      ∙ ap (λ (ss : List (Option ℕ)). None ∷ ss) (quiet k ones others silent.1 (omega (arith, e)) (omega (arith, le)))

  pub merging_starts : (ones others : List (Option ℕ)) → Merging f ones others [] 0
  merging_starts ones others = record { goes = refl; behind = omega arith; within = omega arith }

  -- the documents up to one that comes next have none
  passed : (ones others done : List (Option ℕ)) (from doc : ℕ) → Merging f ones others done from → length ones ≡ length others → from ≤ doc → doc ≤ length ones
      → Silent f (doc - from) (drop from ones) (drop from others)
      → padded doc done ++ paired f (drop doc ones) (drop doc others) ≡ paired f ones others
  passed ones others done from doc it long low high silent =
      let k : ℕ = doc - from in
      let there : from + k ≡ doc = omega (arith, low) in
      let same : length (drop from ones) ≡ length (drop from others) = omega (arith, long, length-drop from ones, length-drop from others) in
      let fits : k ≤ length (drop from ones) = omega (arith, low, high, length-drop from ones) in
      ap (λ (ss : List (Option ℕ)). ss ++ paired f (drop doc ones) (drop doc others)) (sym (padded_more done from doc it.behind low))
      ∙ append_assoc (padded from done) (replicate k None) (paired f (drop doc ones) (drop doc others))
      ∙ ap (λ n. padded from done ++ (replicate k None ++ paired f (drop n ones) (drop n others))) (sym there)
      ∙ ap (λ (ss : List (Option ℕ)). padded from done ++ (replicate k None ++ paired f ss (drop (from + k) others))) (sym (drop-drop k from ones))
      ∙ ap (λ (ss : List (Option ℕ)). padded from done ++ (replicate k None ++ paired f (drop k (drop from ones)) ss)) (sym (drop-drop k from others))
      ∙ ap (λ (ss : List (Option ℕ)). padded from done ++ ss) (sym (quiet k (drop from ones) (drop from others) silent same fits))
      ∙ it.goes

  pub merging_more : (ones others done new : List (Option ℕ)) (from doc : ℕ) (score : Option ℕ) → Merging f ones others done from → length ones ≡ length others → from ≤ doc → doc < length ones
      → Silent f (doc - from) (drop from ones) (drop from others) → score ≡ f (get_or ones doc None) (get_or others doc None)
      → padded (doc + 1) new ≡ padded doc done ++ (score ∷ []) → length new ≤ doc + 1 → Merging f ones others new (doc + 1)
  merging_more ones others done new from doc score it long low high silent is put behind =
      let next : suc doc ≡ doc + 1 = omega arith in
      let before = passed ones others done from doc it long low (omega (arith, high)) silent in
      let here : paired f (drop doc ones) (drop doc others) ≡ score ∷ paired f (drop (doc + 1) ones) (drop (doc + 1) others) =
      rw (drop-cons ones doc None high, drop-cons others doc None (omega (arith, high, long)))
      (ap (λ (x : Option ℕ). x ∷ paired f (drop (suc doc) ones) (drop (suc doc) others)) (sym is)
      ∙ ap (λ n. score ∷ paired f (drop n ones) (drop n others)) next) in
      record {
        goes =
            ap (λ (ss : List (Option ℕ)). ss ++ paired f (drop (doc + 1) ones) (drop (doc + 1) others)) put
            ∙ append_assoc (padded doc done) (score ∷ []) (paired f (drop (doc + 1) ones) (drop (doc + 1) others))
            ∙ ap (λ (ss : List (Option ℕ)). padded doc done ++ ss) (sym here)
            ∙ before;
        behind = behind;
        within = omega (arith, high);
      }

  pub merging_ends : (ones others done : List (Option ℕ)) (from : ℕ) → Merging f ones others done from → length ones ≡ length others → Silent f (length ones - from) (drop from ones) (drop from others) → padded (length ones) done ≡ paired f ones others
  merging_ends ones others done from it long silent =
      let end : ℕ = length ones in
      let all = passed ones others done from end it long it.within (omega arith) silent in
      sym (append_nil (padded end done)) ∙ ap (λ (ss : List (Option ℕ)). padded end done ++ ss) (sym (over ones others)) ∙ all
    where
      append_nil : (xs : List (Option ℕ)) → xs ++ [] ≡ xs
      append_nil [] = refl
      append_nil (x ∷ xs) = ap (λ (ss : List (Option ℕ)). x ∷ ss) (append_nil xs)

      over : (ones others : List (Option ℕ)) → paired f (drop (length ones) ones) (drop (length ones) others) ≡ []
      over [] others = refl
      over (a ∷ ones) [] = over_nil ones
        where
          over_nil : (ones : List (Option ℕ)) → paired f (drop (length ones) ones) [] ≡ []
          over_nil [] = refl
          over_nil (a ∷ ones) = over_nil ones
      over (a ∷ ones) (b ∷ others) = over ones others
