-- Walks over the documents of the roots.
use Rattle.std.proofs.Common.{◌≡◌, ℕ, zero, suc, ◌+◌, ◌-◌, ◌<◌, ◌≤◌, Bool, true, false, cond, List, [], ◌∷◌, ◌++◌, length, take, drop, get_or, slice_get, replicate, Option, Some, None, refl, sym, ap, ◌∙◌, arith, append_assoc, length-append}
use Rattle.std.specs.List.{count_by, flat_map}
use Rattle.std.specs.Option.{option_to_list}
use Rattle.std.specs.Prelude.{IfNone, IfSome}
use Rattle.std.proofs.lemmas.List.{length-replicate}
use Rattle.std.proofs.lemmas.List.Sums.{sum_by-cons}
use Rattle.std.proofs.lemmas.Option.{same_Some}
use Rattle.block_bits.specs.Flags.{is_marked}
use Rattle.block_join.specs.Scores.{Standing, between, padded}
use Rattle.segment_parts.specs.Text.{marked_places}
use Rattle.query_eval.specs.Sides.{at_roots}
use Rattle.query_eval.proofs.Entries.{Scores, nil_append, take_whole}

-- ---- a list from a place on

pub get_drop : (xs : Scores) (from k : ℕ) → get_or (drop from xs) k None ≡ get_or xs (from + k) None
get_drop xs zero k = let same : 0 + k ≡ k = omega arith in ap (λ n. get_or xs n None) (sym same)
get_drop [] (suc from) k = refl
get_drop (x ∷ xs) (suc from) k = let same : suc from + k ≡ suc (from + k) = omega arith in get_drop xs from k ∙ ap (λ n. get_or (x ∷ xs) n None) (sym same)

-- ---- the score of one document

drop_at : (hits : Scores) (doc : ℕ) → doc < length hits → drop doc hits ≡ get_or hits doc None ∷ drop (doc + 1) hits
drop_at [] doc below = absurd (omega (arith, below))
drop_at (h ∷ hits) zero below = refl
drop_at (h ∷ hits) (suc doc) below = let same : suc doc + 1 ≡ suc (doc + 1) = omega arith in rw same (drop_at hits doc (omega (arith, below)))

own_between : (hits : Scores) (doc : ℕ) → doc < length hits → between hits doc (doc + 1) ≡ option_to_list (get_or hits doc None)
own_between hits doc below =
    let one : (doc + 1) - doc ≡ 1 = omega arith in
    ap (λ (n : ℕ). flat_map option_to_list (take n (drop doc hits))) one
    ∙ ap (λ (l : Scores). flat_map option_to_list (take 1 l)) (drop_at hits doc below)
    ∙ nil_append (option_to_list (get_or hits doc None))

one_told : (x : Option ℕ) (s : ℕ) (rest : List ℕ) → option_to_list x ≡ s ∷ rest → Some s ≡ x
one_told None s rest is = absurd (let no : ⊥ = cc in no)
one_told (Some t) s rest is = let same : t ≡ s = cc in ap Some (sym same)

none_told : (x : Option ℕ) → option_to_list x ≡ [] → None ≡ x
none_told None is = refl
none_told (Some t) is = absurd (let no : ⊥ = cc in no)

-- what a cursor takes where it stands at a document
pub took : (old : Standing) (scores : Scores) (doc : ℕ) (score : Option ℕ) (new : Standing) → old ≡ record { scores = scores; from = doc } → doc < length scores
    → IfSome score (λ s. between old.scores old.from (doc + 1) ≡ s ∷ between new.scores new.from (doc + 1)) → IfNone score ((between old.scores old.from (doc + 1) ≡ []) × (new.from ≡ doc + 1)) → score ≡ get_or scores doc None
took old scores doc None new is below some none =
    let same : between old.scores old.from (doc + 1) ≡ between scores doc (doc + 1) = ap (λ (x : Standing). between x.scores x.from (doc + 1)) is in
    none_told (get_or scores doc None) (sym (own_between scores doc below) ∙ sym same ∙ none.0)
took old scores doc (Some s) new is below some none =
    let same : between old.scores old.from (doc + 1) ≡ between scores doc (doc + 1) = ap (λ (x : Standing). between x.scores x.from (doc + 1)) is in
    one_told (get_or scores doc None) s (between new.scores new.from (doc + 1)) (sym (own_between scores doc below) ∙ sym same ∙ some)

-- ---- scores given to roots

repeated : (n m : ℕ) → ◌≡◌ {A = Scores} (replicate n None ++ replicate m None) (replicate (m + n) None)
repeated zero m = ap (λ k. replicate k None) (omega arith)
repeated (suc n) m =
    let next : suc (m + n) ≡ m + suc n = omega arith in ap (λ (l : Scores). None ∷ l) (repeated n m) ∙ ap (λ k. replicate k None) next

padded_more : (done : Scores) (from end : ℕ) → length done ≤ from → from ≤ end → padded from done ++ replicate (end - from) None ≡ padded end done
padded_more done from end h le =
    let sum : (end - from) + (from - length done) ≡ end - length done = omega arith in
    append_assoc done (replicate (from - length done) None) (replicate (end - from) None)
    ∙ ap (λ (l : Scores). done ++ l) (repeated (from - length done) (end - from) ∙ ap (λ n. replicate n None) sum)

-- the first part of a list that goes on
first_part : (xs ys : Scores) → take (length xs) (xs ++ ys) ≡ xs
first_part [] ys = refl
first_part (x ∷ xs) ys = ap (λ (l : Scores). x ∷ l) (first_part xs ys)

pub padded_long : (done : Scores) (doc : ℕ) → length done ≤ doc → length (padded doc done) ≡ doc
padded_long done doc low = omega (arith, low, length-append done (replicate (doc - length done) None), length-replicate {A = Option ℕ} (doc - length done) None)

cut_padded : (done : Scores) (doc n : ℕ) → length done ≤ doc → doc ≤ n → padded doc done ≡ take doc (padded n done)
cut_padded done doc n low le =
    sym
    (ap (take doc) (sym (padded_more done doc n low le))
    ∙ ap (λ k. take k (padded doc done ++ replicate (n - doc) None)) (sym (padded_long done doc low))
    ∙ first_part (padded doc done) (replicate (n - doc) None))

-- ---- the documents of the roots

place_low : (start : ℕ) (flags : List Bool) (root doc : ℕ) → slice_get (marked_places start flags) root ≡ Some doc → start ≤ doc
place_low start [] root doc is = absurd (let no : ⊥ = cc in no)
place_low start (true ∷ flags) zero doc is = let same : start ≡ doc = same_Some start doc is in omega (arith, same)
place_low start (true ∷ flags) (suc root) doc is = omega (arith, place_low (start + 1) flags root doc is)
place_low start (false ∷ flags) root doc is = omega (arith, place_low (start + 1) flags root doc is)

pub places_ascend : (start : ℕ) (flags : List Bool) (root other doc after : ℕ) → slice_get (marked_places start flags) root ≡ Some doc → slice_get (marked_places start flags) other ≡ Some after → root < other → doc < after
places_ascend start [] root other doc after is later below = absurd (let no : ⊥ = cc in no)
places_ascend start (true ∷ flags) root zero doc after is later below = absurd (omega (arith, below))
places_ascend start (true ∷ flags) zero (suc other) doc after is later below =
    let same : start ≡ doc = same_Some start doc is in omega (arith, same, place_low (start + 1) flags other after later)
places_ascend start (true ∷ flags) (suc root) (suc other) doc after is later below = places_ascend (start + 1) flags root other doc after is later (omega (arith, below))
places_ascend start (false ∷ flags) root other doc after is later below = places_ascend (start + 1) flags root other doc after is later below

-- as many roots come before the document of a root as before the root
pub place_counted : (start : ℕ) (flags : List Bool) (root doc : ℕ) → slice_get (marked_places start flags) root ≡ Some doc → root ≡ count_by is_marked (take (doc - start) flags)
place_counted start [] root doc is = absurd (let no : ⊥ = cc in no)
place_counted start (true ∷ flags) zero doc is =
    let same : start ≡ doc = same_Some start doc is in
    let none : doc - start ≡ 0 = omega (arith, same) in
    ap (λ n. count_by is_marked (take n (true ∷ flags))) (sym none)
place_counted start (true ∷ flags) (suc root) doc is =
    let low = place_low (start + 1) flags root doc is in
    let next : suc (doc - (start + 1)) ≡ doc - start = omega (arith, low) in
    let more : count_by is_marked (take (suc (doc - (start + 1))) (true ∷ flags)) ≡ 1 + count_by is_marked (take (doc - (start + 1)) flags) = sum_by-cons (λ (b : Bool). cond (is_marked b) 1 0) true (take (doc - (start + 1)) flags) in
    let own : suc root ≡ count_by is_marked (take (suc (doc - (start + 1))) (true ∷ flags)) = omega (arith, more, place_counted (start + 1) flags root doc is) in
    own ∙ ap (λ n. count_by is_marked (take n (true ∷ flags))) next
place_counted start (false ∷ flags) root doc is =
    let low = place_low (start + 1) flags root doc is in
    let next : suc (doc - (start + 1)) ≡ doc - start = omega (arith, low) in
    let more : count_by is_marked (take (suc (doc - (start + 1))) (false ∷ flags)) ≡ 0 + count_by is_marked (take (doc - (start + 1)) flags) = sum_by-cons (λ (b : Bool). cond (is_marked b) 1 0) false (take (doc - (start + 1)) flags) in
    let own : root ≡ count_by is_marked (take (suc (doc - (start + 1))) (false ∷ flags)) = omega (arith, more, place_counted (start + 1) flags root doc is) in
    own ∙ ap (λ n. count_by is_marked (take n (false ∷ flags))) next

-- ---- one root more is given something

none_left : (flags : List Bool) → at_roots flags [] ≡ replicate (length flags) None
none_left [] = refl
none_left (true ∷ flags) = ap (λ (l : Scores). None ∷ l) (none_left flags)
none_left (false ∷ flags) = ap (λ (l : Scores). None ∷ l) (none_left flags)

skip_root : (flags : List Bool) (given : Scores) (root : ℕ) → None ≡ get_or given root None → at_roots flags (take (suc root) given) ≡ at_roots flags (take root given)
skip_root [] given root is = refl
skip_root (true ∷ flags) [] zero is = refl
skip_root (true ∷ flags) [] (suc root) is = refl
skip_root (true ∷ flags) (g ∷ given) zero is = ap (λ (x : Option ℕ). x ∷ at_roots flags []) (sym is)
skip_root (true ∷ flags) (g ∷ given) (suc root) is = ap (λ (l : Scores). g ∷ l) (skip_root flags given root is)
skip_root (false ∷ flags) given root is = ap (λ (l : Scores). None ∷ l) (skip_root flags given root is)

record PutRoot (start : ℕ) (flags : List Bool) (given : Scores) (root doc score : ℕ) : Type 0 where
  pub ahead : ℕ
  pub place : doc ≡ start + ahead
  pub below : ahead < length flags
  pub rows : at_roots flags (take (suc root) given) ≡ take ahead (at_roots flags (take root given)) ++ (Some score ∷ replicate (length flags - suc ahead) None)

put_root : (start : ℕ) (flags : List Bool) (given : Scores) (root doc score : ℕ) → slice_get (marked_places start flags) root ≡ Some doc → Some score ≡ get_or given root None → PutRoot start flags given root doc score
put_root start [] given root doc score is own = absurd (let no : ⊥ = cc in no)
put_root start (true ∷ flags) [] zero doc score is own = absurd (let no : ⊥ = cc in no)
put_root start (true ∷ flags) [] (suc root) doc score is own = absurd (let no : ⊥ = cc in no)
put_root start (true ∷ flags) (g ∷ given) zero doc score is own =
    let same : start ≡ doc = same_Some start doc is in
    let left : length flags ≡ suc (length flags) - 1 = omega arith in
    record {
      ahead = 0;
      place = omega (arith, same);
      below = omega arith;
      rows = ap (λ (x : Option ℕ). x ∷ at_roots flags []) (sym own) ∙ ap (λ (l : Scores). Some score ∷ l) (none_left flags ∙ ap (λ n. replicate n None) left);
    }
put_root start (true ∷ flags) (g ∷ given) (suc root) doc score is own =
    let rest = put_root (start + 1) flags given root doc score is own in
    let left : length flags - suc rest.ahead ≡ suc (length flags) - suc (suc rest.ahead) = omega arith in
    record {
      ahead = suc rest.ahead;
      place = omega (arith, rest.place);
      below = omega (arith, rest.below);
      rows = ap (λ (l : Scores). g ∷ l) (rest.rows ∙ ap (λ n. take rest.ahead (at_roots flags (take root given)) ++ (Some score ∷ replicate n None)) left);
    }
put_root start (false ∷ flags) given root doc score is own =
    let rest = put_root (start + 1) flags given root doc score is own in
    let left : length flags - suc rest.ahead ≡ suc (length flags) - suc (suc rest.ahead) = omega arith in
    record {
      ahead = suc rest.ahead;
      place = omega (arith, rest.place);
      below = omega (arith, rest.below);
      rows = ap (λ (l : Scores). None ∷ l) (rest.rows ∙ ap (λ n. take rest.ahead (at_roots flags (take root given)) ++ (Some score ∷ replicate n None)) left);
    }

-- the first roots have what they are given
pub record Giving (flags : List Bool) (given done : Scores) (root : ℕ) : Type 0 where
  pub goes : padded (length flags) done ≡ at_roots flags (take root given)

pub giving_start : (flags : List Bool) (given : Scores) → Giving flags given [] 0
giving_start flags given =
    let all : length flags - 0 ≡ length flags = omega arith in
    record { goes = ap (λ n. replicate n None) all ∙ sym (none_left flags) }

pub giving_none : (flags : List Bool) (given done : Scores) (root : ℕ) → Giving flags given done root → None ≡ get_or given root None → Giving flags given done (root + 1)
giving_none flags given done root it is =
    let next : root + 1 ≡ suc root = omega arith in
    record { goes = it.goes ∙ sym (skip_root flags given root is) ∙ ap (λ n. at_roots flags (take n given)) (sym next) }

pub giving_some : (flags : List Bool) (given done new : Scores) (root doc score : ℕ) → Giving flags given done root → slice_get (marked_places 0 flags) root ≡ Some doc → Some score ≡ get_or given root None
    → length done ≤ doc → new ≡ padded doc done ++ (Some score ∷ []) → Giving flags given new (root + 1)
giving_some flags given done new root doc score it is own low push =
    let put = put_root 0 flags given root doc score is own in
    let n = length flags in
    let at : put.ahead ≡ doc = omega (arith, put.place) in
    let next : root + 1 ≡ suc root = omega arith in
    let long : length new ≡ suc doc = omega (arith, ap length push, length-append (padded doc done) (Some score ∷ []), padded_long done doc low) in
    record {
      goes =
          ap (λ k. new ++ replicate (n - k) None) long
          ∙ ap (λ (l : Scores). l ++ replicate (n - suc doc) None) push
          ∙ append_assoc (padded doc done) (Some score ∷ []) (replicate (n - suc doc) None)
          ∙ ap (λ (l : Scores). l ++ (Some score ∷ replicate (n - suc doc) None)) (cut_padded done doc n low (omega (arith, put.below, at)) ∙ ap (take doc) it.goes)
          ∙ ap (λ k. take k (at_roots flags (take root given)) ++ (Some score ∷ replicate (n - suc k) None)) (sym at)
          ∙ sym put.rows
          ∙ ap (λ k. at_roots flags (take k given)) (sym next);
    }

pub giving_end : (flags : List Bool) (given done : Scores) (root : ℕ) → Giving flags given done root → length given ≤ root → padded (length flags) done ≡ at_roots flags given
giving_end flags given done root it past = it.goes ∙ ap (at_roots flags) (take_whole given root past)
