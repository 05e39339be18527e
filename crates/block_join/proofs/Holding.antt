-- The join down of hits that share one score: what lies between them is taken out of the lower documents.
use Rattle.std.proofs.Common.{◌≡◌, ◌≢◌, ℕ, zero, suc, ◌+◌, ◌-◌, ◌<◌, ◌≤◌, Bool, true, false, cond, List, [], ◌∷◌, ◌++◌, length, take, drop, set, replicate, get_or, Option, Some, None, is_some, refl, sym, ap, ◌∙◌, arith, append_assoc, append-nil, drop-drop, drop-set-lt, length-append, length-drop, length-set, length-take-le}
use Rattle.std.specs.List.{zip, position_from}
use Rattle.std.specs.Option.{option_to_list, option_and_then}
use Rattle.std.proofs.lemmas.List.{length-replicate, drop-take, take_more_set}
use Rattle.std.proofs.Math.Seq.{take-append-add, drop-append-add}
use Rattle.block_bits.specs.Blocks.{documents_of}
use Rattle.block_bits.specs.Flags.{is_marked, cleared}
use Rattle.block_bits.specs.Places.{next_place}
use Rattle.block_join.specs.Joins.{spread}
use Rattle.block_join.specs.Kept.{next_parent, holder, IsStart}
use Rattle.block_join.specs.Scores.{between, filled, padded}
use Rattle.block_join.proofs.Built.{length_padded, padded_all}
use Rattle.block_join.proofs.Spreading.{Spreading, between_one}
use Rattle.block_join.proofs.Sets.{SpreadingSets, parent_is_in, spreading_sets_end, spreading_sets_hit, spreading_sets_none, spreading_sets_start, start_later}

-- ---- one score for the documents of a set

filled_append : (score : Option ℕ) (flags others : List Bool) → filled score (flags ++ others) ≡ filled score flags ++ filled score others
filled_append score [] others = refl
filled_append score (flag ∷ flags) others = ap (λ (ss : List (Option ℕ)). cond flag score None ∷ ss) (filled_append score flags others)

filled_false : (score : Option ℕ) (n : ℕ) → filled score (replicate n false) ≡ replicate n None
filled_false score zero = refl
filled_false score (suc n) = ap (λ (ss : List (Option ℕ)). None ∷ ss) (filled_false score n)

filled_drop : (score : Option ℕ) (n : ℕ) (flags : List Bool) → drop n (filled score flags) ≡ filled score (drop n flags)
filled_drop score zero flags = refl
filled_drop score (suc n) [] = refl
filled_drop score (suc n) (flag ∷ flags) = filled_drop score n flags

pub length_filled : (score : Option ℕ) (flags : List Bool) → length (filled score flags) ≡ length flags
length_filled score [] = refl
length_filled score (flag ∷ flags) = ap suc (length_filled score flags)

filled_at : (score at : ℕ) (flags : List Bool) → get_or (filled (Some score) flags) at None ≡ cond (get_or flags at false) (Some score) None
filled_at score at [] = refl
filled_at score zero (flag ∷ flags) = refl
filled_at score (suc at) (flag ∷ flags) = filled_at score at flags

filled_next : (score start : ℕ) (flags : List Bool) → position_from is_some start (filled (Some score) flags) ≡ position_from is_marked start flags
filled_next score start [] = refl
filled_next score start (true ∷ flags) = refl
filled_next score start (false ∷ flags) = filled_next score (start + 1) flags

holder_is : (score : ℕ) (parents hits : List Bool) (from : ℕ) → next_parent parents from (filled (Some score) hits) ≡ holder parents hits from
holder_is score parents hits from =
    ap (option_and_then (λ doc. next_place is_marked doc parents))
    (ap (position_from is_some from) (filled_drop (Some score) from hits) ∙ filled_next score from (drop from hits))

-- ---- flags that are taken out

-- those of a set up to a place where no more are taken out, and from there on those of another
pub record Cut (children flags : List Bool) (from : ℕ) : Type 0 where
  pub rest : drop from flags ≡ drop from children
  pub long : length flags ≡ length children
  pub within : from ≤ length children

module _ (children flags : List Bool) (from start at : ℕ) (it : Cut children flags from) (later : from ≤ start) (before : start ≤ at) (inside : at < length children) where
  -- they are taken out up to `start`, and the one at `at`
  abbrev after : List Bool
  after = set (cleared from start flags) at false

  front_long : length (take from flags) ≡ from
  front_long = length-take-le from flags (omega (arith, it.long, it.within))

  none_long : length (replicate (start - from) false) ≡ start - from
  none_long = length-replicate (start - from) false

  rest_from : (n : ℕ) → from ≤ n → drop n flags ≡ drop n children
  rest_from n h =
      let sum : from + (n - from) ≡ n = omega (arith, h) in
      ap (λ k. drop k flags) (sym sum) ∙ sym (drop-drop (n - from) from flags) ∙ ap (drop (n - from)) it.rest ∙ drop-drop (n - from) from children ∙ ap (λ k. drop k children) sum

  cleared_long : length (cleared from start flags) ≡ length children
  cleared_long =
      length-append (take from flags) (replicate (start - from) false ++ drop start flags)
      ∙ omega (arith, front_long, length-append (replicate (start - from) false) (drop start flags), none_long, length-drop start flags, it.long, later, before, inside)

  cleared_front : take at (cleared from start flags) ≡ take from flags ++ (replicate (start - from) false ++ drop start (take at children))
  cleared_front =
      let none = replicate (start - from) false in
      let inner : at ≡ length none + (at - start) + from = omega (arith, none_long, later, before) in
      let place : at ≡ length (take from flags) + (length none + (at - start)) = omega (arith, front_long, none_long, later, before) in
      let all : start + (at - start) ≡ at = omega (arith, before) in
      ap (λ n. take n (cleared from start flags)) place
      ∙ take-append-add (take from flags) (none ++ drop start flags) (length none + (at - start))
      ∙ ap (λ bs. take from flags ++ bs)
      (take-append-add none (drop start flags) (at - start)
      ∙ ap (λ bs. none ++ bs) (ap (take (at - start)) (rest_from start later) ∙ sym (drop-take start (at - start) children) ∙ ap (λ n. drop start (take n children)) all))

  cleared_back : drop (at + 1) (cleared from start flags) ≡ drop (at + 1) children
  cleared_back =
      let none = replicate (start - from) false in
      let place : at + 1 ≡ length (take from flags) + (length none + (at + 1 - start)) = omega (arith, front_long, none_long, later, before) in
      let all : start + (at + 1 - start) ≡ at + 1 = omega (arith, before) in
      ap (λ n. drop n (cleared from start flags)) place
      ∙ drop-append-add (take from flags) (none ++ drop start flags) (length none + (at + 1 - start))
      ∙ drop-append-add none (drop start flags) (at + 1 - start)
      ∙ drop-drop (at + 1 - start) start flags
      ∙ ap (λ n. drop n flags) all
      ∙ rest_from (at + 1) (omega (arith, later, before))

  pub cut_more : Cut children after (at + 1)
  cut_more = record {
    rest = drop-set-lt (at + 1) (cleared from start flags) at false (omega arith) ∙ cleared_back;
    long = length-set (cleared from start flags) at false ∙ cleared_long;
    within = omega (arith, inside);
  }

  abbrev inner : List Bool
  inner = drop start (take at children)

  front : (score : Option ℕ) → filled score (take (at + 1) after) ≡ (filled score (take from flags) ++ (replicate (start - from) None ++ filled score inner)) ++ (None ∷ [])
  front score =
      ap (filled score) (take_more_set (cleared from start flags) at false (omega (arith, inside, cleared_long)) ∙ ap (λ bs. bs ++ (false ∷ [])) cleared_front)
      ∙ filled_append score (take from flags ++ (replicate (start - from) false ++ inner)) (false ∷ [])
      ∙ ap (λ (ss : List (Option ℕ)). ss ++ (None ∷ []))
      (filled_append score (take from flags) (replicate (start - from) false ++ inner)
      ∙ ap (λ (ss : List (Option ℕ)). filled score (take from flags) ++ ss)
      (filled_append score (replicate (start - from) false) inner ∙ ap (λ (ss : List (Option ℕ)). ss ++ filled score inner) (filled_false score (start - from))))

-- ---- the loop

abbrev none_of : ℕ → List (Option ℕ)
none_of n = replicate n None

pub record Holding (parents children hits flags : List Bool) (from : ℕ) : Type 0 where
  pub goes : (score : ℕ) → SpreadingSets parents children (filled (Some score) hits) (filled (Some score) (take from flags)) from
  pub cut : Cut children flags from

pub holding_starts : (parents children hits : List Bool) → Holding parents children hits children 0
holding_starts parents children hits = record {
  goes = λ score. spreading_sets_start parents children (filled (Some score) hits);
  cut = record { rest = refl; long = refl; within = omega arith };
}

-- padding is no change
padded_same : (outer inner : ℕ) (scopes : List ℕ) (scores done new : List (Option ℕ)) (from : ℕ) → Spreading outer inner scopes scores done from → new ≡ padded from done → Spreading outer inner scopes scores new from
padded_same outer inner scopes scores done new from it is =
    let long : length new ≡ from = ap length is ∙ length_padded done from it.behind in
    record {
      goes = ap (λ (ss : List (Option ℕ)). ss ++ spread outer inner (zip (drop from scopes) (drop from scores))) (padded_all new from long ∙ is) ∙ it.goes;
      behind = omega (arith, long);
      within = it.within;
      edge = it.edge;
    }

padded_sets : (flags inner : List Bool) (scores done new : List (Option ℕ)) (from : ℕ) → SpreadingSets flags inner scores done from → new ≡ padded from done → SpreadingSets flags inner scores new from
padded_sets flags inner scores done new from it is = record {
  goes = λ scopes above below apart same has. padded_same above below scopes scores done new from (it.goes scopes above below apart same has) is;
  behind = omega (arith, ap length is, length_padded done from it.behind);
  edge = it.edge;
}

one_behind : (done : List (Option ℕ)) (at : ℕ) → length done ≡ at → padded (at + 1) done ≡ done ++ (None ∷ [])
one_behind done at long =
    let one : at + 1 - length done ≡ 1 = omega (arith, long) in ap (λ n. done ++ replicate n None) one

module _ (parents children hits flags : List Bool) (from at start : ℕ) (it : Holding parents children hits flags from) (hits_long : length hits ≡ length parents) (long : length children ≡ length parents)
    (next : holder parents hits from ≡ Some at) (low : from ≤ at) (inside : at < length parents) (begins : IsStart parents at start) where
  abbrev scores : ℕ → List (Option ℕ)
  scores score = filled (Some score) hits

  abbrev done : ℕ → List (Option ℕ)
  done score = filled (Some score) (take from flags)

  scores_long : (score : ℕ) → length (scores score) ≡ length parents
  scores_long score = length_filled (Some score) hits ∙ hits_long

  done_long : (score : ℕ) → length (done score) ≡ from
  done_long score = length_filled (Some score) (take from flags) ∙ length-take-le from flags (omega (arith, it.cut.long, it.cut.within))

  next_is : (score : ℕ) → next_parent parents from (scores score) ≡ Some at
  next_is score = holder_is score parents hits from ∙ next

  at_own : get_or parents at false ≡ true
  at_own = parent_is_in parents from (scores 0) at (next_is 0)

  read : (score : ℕ) → between (scores score) at (at + 1) ≡ option_to_list (cond (get_or hits at false) (Some score) None)
  read score = between_one (scores score) at (omega (arith, inside, scores_long score)) ∙ ap option_to_list (filled_at score at hits)

  pub start_behind_from : from ≤ start
  start_behind_from = start_later parents children (scores 0) (done 0) from at start (it.goes 0) low begins

  pub holding_hit : get_or hits at false ≡ true → Holding parents children hits (set (cleared from start flags) at false) (at + 1)
  holding_hit hit =
      let children_inside : at < length children = omega (arith, inside, long) in
      let own = drop start (take at children) in
      record {
        goes = λ score.
            let new : List (Option ℕ) = done score ++ (replicate (start - from) None ++ filled (Some score) own) in
            let gap : start - length (done score) ≡ start - from = omega (arith, done_long score) in
            let own_long : length own ≡ at - start = length-drop start (take at children) ∙ omega (arith, length-take-le at children (omega (arith, children_inside))) in
            let new_long : length new ≡ at =
            length-append (done score) (replicate (start - from) None ++ filled (Some score) own)
            ∙ omega (arith, done_long score, length-append (none_of (start - from)) (filled (Some score) own), length-replicate {A = Option ℕ} (start - from) None, length_filled (Some score) own, own_long, start_behind_from, begins.within) in
            padded_sets parents children (scores score) new (filled (Some score) (take (at + 1) (set (cleared from start flags) at false))) (at + 1)
            (spreading_sets_hit parents children (scores score) (done score) new from at start score [] (it.goes score) (scores_long score) (next_is score) begins at_own
            (read score ∙ ap (λ b. option_to_list (cond b (Some score) None)) hit)
            (padded_all new at new_long ∙ sym (append_assoc (done score) (replicate (start - from) None) (filled (Some score) own)) ∙ ap (λ n. (done score ++ replicate n None) ++ filled (Some score) own) (sym gap))
            (omega (arith, new_long)))
            (front children flags from start at it.cut start_behind_from begins.within children_inside (Some score) ∙ sym (one_behind new at new_long));
        cut = cut_more children flags from start at it.cut start_behind_from begins.within children_inside;
      }

  pub holding_none : get_or hits at false ≡ false → Holding parents children hits (set (cleared from at flags) at false) (at + 1)
  holding_none miss =
      let children_inside : at < length children = omega (arith, inside, long) in
      let here : at ≤ at = omega arith in
      record {
        goes = λ score.
            let none_left : drop at (take at children) ≡ [] = nothing at children in
            let gap : at + 1 - length (done score) ≡ suc (at - from) = omega (arith, done_long score, low) in
            padded_sets parents children (scores score) (done score) (filled (Some score) (take (at + 1) (set (cleared from at flags) at false))) (at + 1)
            (spreading_sets_none parents children (scores score) (done score) from at start (it.goes score) (scores_long score) (next_is score) begins at_own low
            (read score ∙ ap (λ b. option_to_list (cond b (Some score) None)) miss))
            (front children flags from at at it.cut low here children_inside (Some score)
            ∙ ap (λ bs. (done score ++ (replicate (at - from) None ++ filled (Some score) bs)) ++ (None ∷ [])) none_left
            ∙ ap (λ (ss : List (Option ℕ)). (done score ++ ss) ++ (None ∷ [])) (append-nil (replicate (at - from) None))
            ∙ append_assoc (done score) (replicate (at - from) None) (None ∷ [])
            ∙ ap (λ (ss : List (Option ℕ)). done score ++ ss) (snoc (at - from))
            ∙ ap (λ n. done score ++ replicate n None) (sym gap));
        cut = cut_more children flags from at at it.cut low here children_inside;
      }
    where
      nothing : (n : ℕ) (xs : List Bool) → drop n (take n xs) ≡ []
      nothing zero xs = refl
      nothing (suc n) [] = refl
      nothing (suc n) (x ∷ xs) = nothing n xs

      snoc : (n : ℕ) → ◌≡◌ {A = List (Option ℕ)} (replicate n None ++ (None ∷ [])) (replicate (suc n) None)
      snoc zero = refl
      snoc (suc n) = ap (λ (ss : List (Option ℕ)). None ∷ ss) (snoc n)

-- no hit has a document of the upper set any more
pub holding_ends : (parents children hits flags : List Bool) (from : ℕ) → Holding parents children hits flags from → length hits ≡ length parents → length children ≡ length parents → holder parents hits from ≡ None
    → (scopes : List ℕ) (above below score : ℕ) → above ≢ below → parents ≡ documents_of scopes above → children ≡ documents_of scopes below
    → filled (Some score) (cleared from (length parents) flags) ≡ spread above below (zip scopes (filled (Some score) hits))
holding_ends parents children hits flags from it hits_long long next scopes above below score apart is has =
    let len = length parents in
    let done = filled (Some score) (take from flags) in
    let done_long : length done ≡ from = length_filled (Some score) (take from flags) ∙ length-take-le from flags (omega (arith, it.cut.long, it.cut.within)) in
    let all : length (filled (Some score) hits) ≡ len = length_filled (Some score) hits ∙ hits_long in
    let gap : len - from ≡ length (filled (Some score) hits) - length done = omega (arith, done_long, all) in
    let nothing : drop len flags ≡ [] = empty (drop len flags) (omega (arith, length-drop len flags, it.cut.long, long)) in
    filled_append (Some score) (take from flags) (replicate (len - from) false ++ drop len flags)
    ∙ ap (λ (ss : List (Option ℕ)). done ++ ss) (ap (λ bs. filled (Some score) (replicate (len - from) false ++ bs)) nothing ∙ ap (filled (Some score)) (append-nil (replicate (len - from) false)) ∙ filled_false (Some score) (len - from))
    ∙ ap (λ n. done ++ replicate n None) gap
    ∙ spreading_sets_end parents children (filled (Some score) hits) done from (it.goes score) all (holder_is score parents hits from ∙ next) scopes above below apart is has
  where
    empty : (xs : List Bool) → length xs ≡ 0 → xs ≡ []
    empty [] e = refl
    empty (x ∷ xs) e = absurd (omega (arith, e))
