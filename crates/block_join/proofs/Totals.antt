-- Sums of parts: the sum of each document, and those of the documents of a range together.
use Rattle.std.proofs.Common.{◌≡◌, ℕ, zero, suc, ◌+◌, ◌-◌, ◌*◌, ◌<◌, ◌≤◌, Bool, true, false, cond, List, [], ◌∷◌, ◌++◌, length, map, take, drop, replicate, get_or, Option, Some, None, IfSome, is_some, Box, Vec, refl, sym, ap, ◌∙◌, subst, arith, suc-mul, drop-drop}
use Rattle.std.specs.Prelude.{sum}
use Rattle.std.specs.declared.alloc.Global.{Global}
use Rattle.std.specs.List.{All, flat_map, position_from}
use Rattle.std.specs.Option.{option_to_list}
use Rattle.std.proofs.lemmas.List.{drop-take, length-map, length-replicate}
use Rattle.std.proofs.lemmas.List.Sums.{sum_by-cons}
use Rattle.block_bits.specs.Flags.{intersection, is_marked, union}
use Rattle.score_math.specs.declared.score.TheConstants.{SCORE_CAP}
use Rattle.block_bits.specs.Places.{next_place}
use Rattle.score_math.specs.Scores.{capped, mode_of}
use Rattle.score_math.specs.declared.score.ScoreMode.TheVariants.{Sum}
use Rattle.block_join.specs.Kept.{AreKept, IsKept, IsRead, kept_score, marks, shown}
use Rattle.block_join.specs.Merge.{paired, put_together}
use Rattle.block_join.specs.Scores.{between, filled}
use Rattle.block_join.specs.Sums.{IsPart, IsSum, or_zero, summed, summed_from}
use Rattle.block_join.specs.declared.parts.Part.{Part}
use Rattle.block_join.specs.declared.parts.Parts.{Parts}
use Rattle.block_join.specs.declared.rule.Rule.TheVariants.{Both, Counted, Either, Plus}
use Rattle.block_join.specs.declared.scores.Form.{Form}
use Rattle.block_join.specs.declared.scores.Form.TheVariants.{Listed, Summed}
use Rattle.block_join.proofs.Firsts.{FirstAt, NoneIn, first_at, none_at, none_before}
use Rattle.block_join.proofs.Holding.{length_filled}
use Rattle.block_join.proofs.Merging.{length_paired}
use Rattle.block_join.proofs.Shown.{length_shown, marks_first, marks_none, marks_parts, shown_set}

abbrev pub Scores : Type 0
Scores = List (Option ℕ)

-- ---- a part

pub filled_on : (score : ℕ) (flags : List Bool) (doc : ℕ) → get_or flags doc false ≡ true → Some score ≡ get_or (filled (Some score) flags) doc None
filled_on score [] doc is = absurd (let no : ⊥ = cc in no)
filled_on score (true ∷ flags) zero is = refl
filled_on score (false ∷ flags) zero is = absurd (let no : ⊥ = cc in no)
filled_on score (flag ∷ flags) (suc doc) is = filled_on score flags doc is

pub filled_off : (score : ℕ) (flags : List Bool) (doc : ℕ) → get_or flags doc false ≡ false → None ≡ get_or (filled (Some score) flags) doc None
filled_off score [] doc is = refl
filled_off score (true ∷ flags) zero is = absurd (let no : ⊥ = cc in no)
filled_off score (false ∷ flags) zero is = refl
filled_off score (flag ∷ flags) (suc doc) is = filled_off score flags doc is

pub summed_more : (sums : Scores) (parts : List Part) (part : Part) → summed_from sums (parts ++ part ∷ []) ≡ paired (put_together Either) (summed_from sums parts) (filled (Some part.score) part.set)
summed_more sums [] part = refl
summed_more sums (p ∷ parts) part = summed_more (paired (put_together Either) sums (filled (Some p.score) p.set)) parts part

-- ---- the sum of a document

paired_at : (f : Option ℕ → Option ℕ → Option ℕ) (ones others : Scores) (doc : ℕ) → length ones ≡ length others → doc < length ones → get_or (paired f ones others) doc None ≡ f (get_or ones doc None) (get_or others doc None)
paired_at f [] others doc long below = absurd (omega (arith, below))
paired_at f (a ∷ ones) [] doc long below = absurd (omega (arith, long))
paired_at f (a ∷ ones) (b ∷ others) zero long below = refl
paired_at f (a ∷ ones) (b ∷ others) (suc doc) long below = paired_at f ones others doc (omega (arith, long)) (omega (arith, below))

abbrev pub value_from : Option ℕ → List Part → ℕ → Option ℕ
value_from sum [] doc = sum
value_from sum (part ∷ parts) doc = value_from (put_together Either sum (get_or (filled (Some part.score) part.set) doc None)) parts doc

-- the sums with a part more
module _ (len : ℕ) (sums : Scores) (part : Part) (is : IsPart len part) (long : length sums ≡ len) where
  own_long : length sums ≡ length (filled (Some part.score) part.set)
  own_long = long ∙ sym is.long ∙ sym (length_filled (Some part.score) part.set)

  more_long : length (paired (put_together Either) sums (filled (Some part.score) part.set)) ≡ len
  more_long = length_paired (put_together Either) sums (filled (Some part.score) part.set) own_long ∙ long

pub value_is : (len : ℕ) (sums : Scores) (parts : List Part) (doc : ℕ) → All (IsPart len) parts → length sums ≡ len → doc < len → get_or (summed_from sums parts) doc None ≡ value_from (get_or sums doc None) parts doc
value_is len sums [] doc all long below = refl
value_is len sums (part ∷ parts) doc all long below =
    let is : IsPart len part = all 0 part (omega arith) in
    value_is len (paired (put_together Either) sums (filled (Some part.score) part.set)) parts doc (λ k d inside. all (suc k) d (omega (arith, inside))) (more_long len sums part is long) below
    ∙ ap (λ (v : Option ℕ). value_from v parts doc) (paired_at (put_together Either) sums (filled (Some part.score) part.set) doc (own_long len sums part is long) (omega (arith, below, long)))

pub none_here : (len doc : ℕ) → get_or (replicate {A = Option ℕ} len None) doc None ≡ None
none_here zero doc = refl
none_here (suc len) zero = refl
none_here (suc len) (suc doc) = none_here len doc

-- ---- how many there are

pub counted_more : (at : ℕ) (flags : List Bool) (doc : ℕ) → position_from is_marked at (drop at flags) ≡ Some doc → marks (drop at flags) ≡ suc (marks (drop (doc + 1) flags))
counted_more at flags doc is =
    let found = first_at is_marked at (drop at flags) doc is in
    let one = marks_first found.ahead (drop at flags) found.first in
    let next : at + suc found.ahead ≡ doc + 1 = omega (arith, found.place) in
    let rest : drop (suc found.ahead) (drop at flags) ≡ drop (doc + 1) flags = drop-drop (suc found.ahead) at flags ∙ ap (λ n. drop n flags) next in
    omega (arith, marks_parts (suc found.ahead) (drop at flags), one, ap marks rest)

all_taken : (flags : List Bool) → take (length flags) flags ≡ flags
all_taken [] = refl
all_taken (flag ∷ flags) = ap (λ (l : List Bool). flag ∷ l) (all_taken flags)

pub counted_none : (at : ℕ) (flags : List Bool) → position_from is_marked at (drop at flags) ≡ None → marks (drop at flags) ≡ 0
counted_none at flags is =
    ap marks (sym (all_taken (drop at flags))) ∙ marks_none (length (drop at flags)) (drop at flags) (none_at is_marked at (drop at flags) (length (drop at flags)) is)

pub counted_range : (from end : ℕ) (flags : List Bool) → from ≤ end → marks (drop from (take end flags)) ≡ marks (take (end - from) (drop from flags))
counted_range from end flags le =
    let sum : from + (end - from) ≡ end = omega (arith, le) in
    ap (λ n. marks (drop from (take n flags))) (sym sum) ∙ ap marks (drop-take from (end - from) flags)

-- ---- the sum of a range

abbrev told : Scores → List ℕ
told scores = flat_map option_to_list scores

told_paired : (ones others : Scores) → length ones ≡ length others → capped (sum (told (paired (put_together Either) ones others))) ≡ capped (sum (told ones) + sum (told others))
told_paired [] [] long = refl
told_paired [] (b ∷ others) long = absurd (omega (arith, long))
told_paired (a ∷ ones) [] long = absurd (omega (arith, long))
told_paired (None ∷ ones) (None ∷ others) long = told_paired ones others (omega (arith, long))
told_paired (None ∷ ones) (Some b ∷ others) long =
    let all = told (paired (put_together Either) ones others) in
    omega (arith, told_paired ones others (omega (arith, long)), sum_by-cons (λ x. x) (capped b) all, sum_by-cons (λ x. x) b (told others))
told_paired (Some a ∷ ones) (None ∷ others) long =
    let all = told (paired (put_together Either) ones others) in
    omega (arith, told_paired ones others (omega (arith, long)), sum_by-cons (λ x. x) a all, sum_by-cons (λ x. x) a (told ones))
told_paired (Some a ∷ ones) (Some b ∷ others) long =
    let all = told (paired (put_together Either) ones others) in
    omega (arith, told_paired ones others (omega (arith, long)), sum_by-cons (λ x. x) (capped (a + b)) all, sum_by-cons (λ x. x) a (told ones), sum_by-cons (λ x. x) b (told others))

told_filled : (score : ℕ) (flags : List Bool) → sum (told (filled (Some score) flags)) ≡ marks flags * score
told_filled score [] = omega arith
told_filled score (true ∷ flags) = omega (arith, told_filled score flags, suc-mul (marks flags) score, sum_by-cons (λ x. x) score (told (filled (Some score) flags)))
told_filled score (false ∷ flags) = told_filled score flags

paired_drop : (f : Option ℕ → Option ℕ → Option ℕ) (n : ℕ) (ones others : Scores) → length ones ≡ length others → drop n (paired f ones others) ≡ paired f (drop n ones) (drop n others)
paired_drop f zero ones others long = refl
paired_drop f (suc n) [] others long = refl
paired_drop f (suc n) (a ∷ ones) [] long = absurd (omega (arith, long))
paired_drop f (suc n) (a ∷ ones) (b ∷ others) long = paired_drop f n ones others (omega (arith, long))

paired_take : (f : Option ℕ → Option ℕ → Option ℕ) (n : ℕ) (ones others : Scores) → length ones ≡ length others → take n (paired f ones others) ≡ paired f (take n ones) (take n others)
paired_take f zero ones others long = refl
paired_take f (suc n) [] others long = refl
paired_take f (suc n) (a ∷ ones) [] long = absurd (omega (arith, long))
paired_take f (suc n) (a ∷ ones) (b ∷ others) long = ap (λ (l : Scores). f a b ∷ l) (paired_take f n ones others (omega (arith, long)))

filled_drop : (n : ℕ) (score : Option ℕ) (flags : List Bool) → drop n (filled score flags) ≡ filled score (drop n flags)
filled_drop zero score flags = refl
filled_drop (suc n) score [] = refl
filled_drop (suc n) score (flag ∷ flags) = filled_drop n score flags

filled_take : (n : ℕ) (score : Option ℕ) (flags : List Bool) → take n (filled score flags) ≡ filled score (take n flags)
filled_take zero score flags = refl
filled_take (suc n) score [] = refl
filled_take (suc n) score (flag ∷ flags) = ap (λ (l : Scores). cond flag score None ∷ l) (filled_take n score flags)

-- so many that are left of a list, and so many from there
cut_long : (n m : ℕ) (ones others : Scores) → length ones ≡ length others → length (take n (drop m ones)) ≡ length (take n (drop m others))
cut_long zero zero ones others long = refl
cut_long (suc n) zero [] [] long = refl
cut_long (suc n) zero [] (b ∷ others) long = absurd (omega (arith, long))
cut_long (suc n) zero (a ∷ ones) [] long = absurd (omega (arith, long))
cut_long (suc n) zero (a ∷ ones) (b ∷ others) long = ap suc (cut_long n zero ones others (omega (arith, long)))
cut_long n (suc m) [] [] long = refl
cut_long n (suc m) [] (b ∷ others) long = absurd (omega (arith, long))
cut_long n (suc m) (a ∷ ones) [] long = absurd (omega (arith, long))
cut_long n (suc m) (a ∷ ones) (b ∷ others) long = cut_long n m ones others (omega (arith, long))

drop_long : (m : ℕ) (ones others : Scores) → length ones ≡ length others → length (drop m ones) ≡ length (drop m others)
drop_long zero ones others long = long
drop_long (suc m) [] [] long = refl
drop_long (suc m) [] (b ∷ others) long = absurd (omega (arith, long))
drop_long (suc m) (a ∷ ones) [] long = absurd (omega (arith, long))
drop_long (suc m) (a ∷ ones) (b ∷ others) long = drop_long m ones others (omega (arith, long))

abbrev pub own_total : Part → ℕ → ℕ → ℕ
own_total part from end = capped (marks (take (end - from) (drop from part.set)) * part.score)

abbrev pub total_from : ℕ → List Part → ℕ → ℕ → ℕ
total_from total [] from end = total
total_from total (part ∷ parts) from end = total_from (capped (total + own_total part from end)) parts from end

total_more : (sums : Scores) (part : Part) (from end : ℕ) → length sums ≡ length (filled (Some part.score) part.set) → capped (sum (between (paired (put_together Either) sums (filled (Some part.score) part.set)) from end)) ≡ capped (capped (sum (between sums from end)) + own_total part from end)
total_more sums part from end long =
    let n : ℕ = end - from in
    let own = filled (Some part.score) part.set in
    let flags = take n (drop from part.set) in
    let window : take n (drop from (paired (put_together Either) sums own)) ≡ paired (put_together Either) (take n (drop from sums)) (take n (drop from own)) =
    ap (take n) (paired_drop (put_together Either) from sums own long) ∙ paired_take (put_together Either) n (drop from sums) (drop from own) (drop_long from sums own long) in
    let own_window : take n (drop from own) ≡ filled (Some part.score) flags = ap (take n) (filled_drop from (Some part.score) part.set) ∙ filled_take n (Some part.score) (drop from part.set) in
    let total : sum (told (take n (drop from own))) ≡ marks flags * part.score = ap (λ (l : Scores). sum (told l)) own_window ∙ told_filled part.score flags in
    ap (λ (l : Scores). capped (sum (told l))) window
    ∙ told_paired (take n (drop from sums)) (take n (drop from own)) (cut_long n from sums own long)
    ∙ omega (arith, total)

pub total_is : (len : ℕ) (sums : Scores) (parts : List Part) (from end : ℕ) → All (IsPart len) parts → length sums ≡ len → capped (sum (between (summed_from sums parts) from end)) ≡ total_from (capped (sum (between sums from end))) parts from end
total_is len sums [] from end all long = refl
total_is len sums (part ∷ parts) from end all long =
    let is : IsPart len part = all 0 part (omega arith) in
    total_is len (paired (put_together Either) sums (filled (Some part.score) part.set)) parts from end (λ k d inside. all (suc k) d (omega (arith, inside))) (more_long len sums part is long)
    ∙ ap (λ n. total_from n parts from end) (total_more sums part from end (own_long len sums part is long))

none_told : (len n m : ℕ) → told (take n (drop m (replicate {A = Option ℕ} len None))) ≡ []
none_told zero zero zero = refl
none_told zero zero (suc m) = refl
none_told zero (suc n) zero = refl
none_told zero (suc n) (suc m) = refl
none_told (suc len) zero zero = refl
none_told (suc len) (suc n) zero = none_told len n zero
none_told (suc len) n (suc m) = none_told len n m

pub no_total : (len from end : ℕ) → capped (sum (between (replicate {A = Option ℕ} len None) from end)) ≡ 0
no_total len from end = ap (λ (l : List ℕ). capped (sum l)) (none_told len (end - from) from)

-- ---- parts cut to a set

abbrev pub cut_from : List Bool → Scores → List Part → Scores
cut_from within sums [] = sums
cut_from within sums (part ∷ parts) = cut_from within (paired (put_together Either) sums (filled (Some part.score) (intersection part.set within))) parts

cut_part : (within flags : List Bool) (sums : Scores) (score : ℕ) → length within ≡ length flags → length sums ≡ length flags
    → paired (put_together Both) (filled (Some 0) within) (paired (put_together Either) sums (filled (Some score) flags)) ≡ paired (put_together Either) (paired (put_together Both) (filled (Some 0) within) sums) (filled (Some score) (intersection flags within))
cut_part [] [] sums score one two = absurd_or sums two
  where
    absurd_or : (sums : Scores) → length sums ≡ 0 → [] ≡ paired (put_together Either) (paired (put_together Both) [] sums) []
    absurd_or [] two = refl
    absurd_or (s ∷ sums) two = refl
cut_part [] (flag ∷ flags) sums score one two = absurd (omega (arith, one))
cut_part (w ∷ within) [] sums score one two = absurd (omega (arith, one))
cut_part (w ∷ within) (flag ∷ flags) [] score one two = absurd (omega (arith, two))
cut_part (false ∷ within) (true ∷ flags) (s ∷ sums) score one two = ap (λ (l : Scores). None ∷ l) (cut_part within flags sums score (omega (arith, one)) (omega (arith, two)))
cut_part (false ∷ within) (false ∷ flags) (s ∷ sums) score one two = ap (λ (l : Scores). None ∷ l) (cut_part within flags sums score (omega (arith, one)) (omega (arith, two)))
cut_part (true ∷ within) (true ∷ flags) (None ∷ sums) score one two =
    let same : capped (0 + capped score) ≡ capped score = omega arith in
    let left = paired (put_together Both) (filled (Some 0) within) (paired (put_together Either) sums (filled (Some score) flags)) in
    ap (λ n. Some n ∷ left) same ∙ ap (λ (l : Scores). Some (capped score) ∷ l) (cut_part within flags sums score (omega (arith, one)) (omega (arith, two)))
cut_part (true ∷ within) (true ∷ flags) (Some s ∷ sums) score one two =
    let same : capped (0 + capped (s + score)) ≡ capped (capped (0 + s) + score) = omega arith in
    let left = paired (put_together Both) (filled (Some 0) within) (paired (put_together Either) sums (filled (Some score) flags)) in
    ap (λ n. Some n ∷ left) same ∙ ap (λ (l : Scores). Some (capped (capped (0 + s) + score)) ∷ l) (cut_part within flags sums score (omega (arith, one)) (omega (arith, two)))
cut_part (true ∷ within) (false ∷ flags) (None ∷ sums) score one two = ap (λ (l : Scores). None ∷ l) (cut_part within flags sums score (omega (arith, one)) (omega (arith, two)))
cut_part (true ∷ within) (false ∷ flags) (Some s ∷ sums) score one two = ap (λ (l : Scores). Some (capped (0 + s)) ∷ l) (cut_part within flags sums score (omega (arith, one)) (omega (arith, two)))

pub cut_is : (len : ℕ) (within : List Bool) (sums : Scores) (parts : List Part) → All (IsPart len) parts → length sums ≡ len → length within ≡ len
    → paired (put_together Both) (filled (Some 0) within) (summed_from sums parts) ≡ cut_from within (paired (put_together Both) (filled (Some 0) within) sums) parts
cut_is len within sums [] all long same = refl
cut_is len within sums (part ∷ parts) all long same =
    let is : IsPart len part = all 0 part (omega arith) in
    cut_is len within (paired (put_together Either) sums (filled (Some part.score) part.set)) parts (λ k d inside. all (suc k) d (omega (arith, inside))) (more_long len sums part is long) same
    ∙ ap (λ (l : Scores). cut_from within l parts) (cut_part within part.set sums part.score (same ∙ sym is.long) (long ∙ sym is.long))

pub cut_none : (len : ℕ) (within : List Bool) → length within ≡ len → paired (put_together Both) (filled (Some 0) within) (replicate len None) ≡ replicate len None
cut_none zero [] long = refl
cut_none zero (w ∷ within) long = absurd (omega (arith, long))
cut_none (suc len) [] long = absurd (omega (arith, long))
cut_none (suc len) (true ∷ within) long = ap (λ (l : Scores). None ∷ l) (cut_none len within (omega (arith, long)))
cut_none (suc len) (false ∷ within) long = ap (λ (l : Scores). None ∷ l) (cut_none len within (omega (arith, long)))

pub length_intersection : (flags others : List Bool) → length flags ≡ length others → length (intersection flags others) ≡ length flags
length_intersection [] others long = refl
length_intersection (flag ∷ flags) [] long = absurd (omega (arith, long))
length_intersection (flag ∷ flags) (other ∷ others) long = ap suc (length_intersection flags others (omega (arith, long)))

pub one_part : (score n : ℕ) (flags : List Bool) → score ≤ SCORE_CAP → length flags ≡ n → paired (put_together Either) (replicate n None) (filled (Some score) flags) ≡ filled (Some score) flags
one_part score zero [] below long = refl
one_part score zero (flag ∷ flags) below long = absurd (omega (arith, long))
one_part score (suc n) [] below long = absurd (omega (arith, long))
one_part score (suc n) (true ∷ flags) below long =
    let same : capped score ≡ score = omega (arith, below) in
    ap (λ s. Some s ∷ paired (put_together Either) (replicate n None) (filled (Some score) flags)) same ∙ ap (λ (l : Scores). Some score ∷ l) (one_part score n flags below (omega (arith, long)))
one_part score (suc n) (false ∷ flags) below long = ap (λ (l : Scores). None ∷ l) (one_part score n flags below (omega (arith, long)))

-- no scores yet
all_none : (scores : Scores) → NoneIn is_marked (length scores) (map is_some scores) → scores ≡ replicate (length scores) None
all_none [] none = refl
all_none (None ∷ scores) none = ap (λ (l : Scores). None ∷ l) (all_none scores none.1)
all_none (Some s ∷ scores) none = absurd (let no : true ≡ false = none.0 in cc)

pub none_found : (scores : Scores) → next_place is_marked 0 (map is_some scores) ≡ None → scores ≡ replicate (length scores) None
none_found scores is = all_none scores (none_at is_marked 0 (map is_some scores) (length scores) is)

pub none_either : (one : Scores) (score : ℕ) (flags : List Bool) → one ≡ replicate (length one) None → score ≤ SCORE_CAP → length flags ≡ length one → filled (Some score) flags ≡ paired (put_together Either) one (filled (Some score) flags)
none_either one score flags none below long =
    sym (one_part score (length one) flags below long) ∙ ap (λ (l : Scores). paired (put_together Either) l (filled (Some score) flags)) (sym none)

-- what is added where there is a score already
pub plus_inside : (sums : Scores) (score : ℕ) (flags : List Bool) → length flags ≡ length sums → paired (put_together Either) sums (filled (Some score) (intersection flags (map is_some sums))) ≡ paired (put_together Plus) sums (filled (Some score) flags)
plus_inside [] score flags long = refl
plus_inside (s ∷ sums) score [] long = absurd (omega (arith, long))
plus_inside (None ∷ sums) score (true ∷ flags) long = ap (λ (l : Scores). None ∷ l) (plus_inside sums score flags (omega (arith, long)))
plus_inside (None ∷ sums) score (false ∷ flags) long = ap (λ (l : Scores). None ∷ l) (plus_inside sums score flags (omega (arith, long)))
plus_inside (Some s ∷ sums) score (true ∷ flags) long = ap (λ (l : Scores). Some (capped (s + score)) ∷ l) (plus_inside sums score flags (omega (arith, long)))
plus_inside (Some s ∷ sums) score (false ∷ flags) long = ap (λ (l : Scores). Some s ∷ l) (plus_inside sums score flags (omega (arith, long)))

-- a count is a sum of ones
pub counted_sets : (ones others : Scores) → length ones ≡ length others → paired (put_together Either) ones (filled (Some 1) (map is_some others)) ≡ paired (put_together Counted) ones others
counted_sets [] others long = refl
counted_sets (a ∷ ones) [] long = absurd (omega (arith, long))
counted_sets (None ∷ ones) (None ∷ others) long = ap (λ (l : Scores). None ∷ l) (counted_sets ones others (omega (arith, long)))
counted_sets (None ∷ ones) (Some b ∷ others) long =
    let same : capped 1 ≡ 1 = omega arith in
    ap (λ n. Some n ∷ paired (put_together Either) ones (filled (Some 1) (map is_some others))) same ∙ ap (λ (l : Scores). Some 1 ∷ l) (counted_sets ones others (omega (arith, long)))
counted_sets (Some a ∷ ones) (None ∷ others) long = ap (λ (l : Scores). Some a ∷ l) (counted_sets ones others (omega (arith, long)))
counted_sets (Some a ∷ ones) (Some b ∷ others) long = ap (λ (l : Scores). Some (capped (a + 1)) ∷ l) (counted_sets ones others (omega (arith, long)))

-- ---- the documents that have a sum

pub union_marked : (sums : Scores) (score : ℕ) (flags : List Bool) → length sums ≡ length flags → union (map is_some sums) flags ≡ map is_some (paired (put_together Either) sums (filled (Some score) flags))
union_marked [] score [] long = refl
union_marked [] score (flag ∷ flags) long = absurd (omega (arith, long))
union_marked (s ∷ sums) score [] long = absurd (omega (arith, long))
union_marked (None ∷ sums) score (true ∷ flags) long = ap (λ (l : List Bool). true ∷ l) (union_marked sums score flags (omega (arith, long)))
union_marked (None ∷ sums) score (false ∷ flags) long = ap (λ (l : List Bool). false ∷ l) (union_marked sums score flags (omega (arith, long)))
union_marked (Some s ∷ sums) score (true ∷ flags) long = ap (λ (l : List Bool). true ∷ l) (union_marked sums score flags (omega (arith, long)))
union_marked (Some s ∷ sums) score (false ∷ flags) long = ap (λ (l : List Bool). true ∷ l) (union_marked sums score flags (omega (arith, long)))

pub cut_marked : (sums : Scores) (within : List Bool) → length sums ≡ length within → intersection (map is_some sums) within ≡ map is_some (paired (put_together Both) (filled (Some 0) within) sums)
cut_marked [] [] long = refl
cut_marked [] (w ∷ within) long = absurd (omega (arith, long))
cut_marked (s ∷ sums) [] long = absurd (omega (arith, long))
cut_marked (None ∷ sums) (true ∷ within) long = ap (λ (l : List Bool). false ∷ l) (cut_marked sums within (omega (arith, long)))
cut_marked (None ∷ sums) (false ∷ within) long = ap (λ (l : List Bool). false ∷ l) (cut_marked sums within (omega (arith, long)))
cut_marked (Some s ∷ sums) (true ∷ within) long = ap (λ (l : List Bool). true ∷ l) (cut_marked sums within (omega (arith, long)))
cut_marked (Some s ∷ sums) (false ∷ within) long = ap (λ (l : List Bool). false ∷ l) (cut_marked sums within (omega (arith, long)))

pub summed_long : (len : ℕ) (sums : Scores) (parts : List Part) → All (IsPart len) parts → length sums ≡ len → length (summed_from sums parts) ≡ len
summed_long len sums [] all long = long
summed_long len sums (part ∷ parts) all long =
    summed_long len (paired (put_together Either) sums (filled (Some part.score) part.set)) parts (λ k d inside. all (suc k) d (omega (arith, inside))) (more_long len sums part (all 0 part (omega arith)) long)

-- no sum is above the cap
abbrev pub AreCapped : Scores → Type 0
AreCapped scores = (doc : ℕ) → IfSome (get_or scores doc None) (λ score. score ≤ SCORE_CAP)

capped_more : (sums : Scores) (score : ℕ) (flags : List Bool) → AreCapped sums → AreCapped (paired (put_together Either) sums (filled (Some score) flags))
capped_more [] score flags all doc = tt
capped_more (s ∷ sums) score [] all doc = tt
capped_more (None ∷ sums) score (true ∷ flags) all zero = omega arith
capped_more (None ∷ sums) score (false ∷ flags) all zero = tt
capped_more (Some s ∷ sums) score (true ∷ flags) all zero = omega arith
capped_more (Some s ∷ sums) score (false ∷ flags) all zero = all 0
capped_more (s ∷ sums) score (flag ∷ flags) all (suc doc) = capped_more sums score flags (λ d. all (suc d)) doc

summed_capped : (sums : Scores) (parts : List Part) → AreCapped sums → AreCapped (summed_from sums parts)
summed_capped sums [] all = all
summed_capped sums (part ∷ parts) all = summed_capped (paired (put_together Either) sums (filled (Some part.score) part.set)) parts (capped_more sums part.score part.set all)

none_capped : (len : ℕ) → AreCapped (replicate len None)
none_capped zero doc = tt
none_capped (suc len) zero = tt
none_capped (suc len) (suc doc) = none_capped len doc

told_capped : (scores : Scores) (k : ℕ) → AreCapped scores → get_or (told scores) k 0 ≤ SCORE_CAP
told_capped [] k all = omega arith
told_capped (None ∷ scores) k all = told_capped scores k (λ d. all (suc d))
told_capped (Some s ∷ scores) zero all = all 0
told_capped (Some s ∷ scores) (suc k) all = told_capped scores k (λ d. all (suc d))

pub sums_capped : (it : Parts) (k : ℕ) → get_or (told (summed it)) k 0 ≤ SCORE_CAP
sums_capped it k = told_capped (summed it) k (summed_capped (replicate it.len None) it.parts.items (none_capped it.len))

-- ---- a sum that is read as a list

-- the documents that have scores, each with its own
shown_told : (f : ℕ → ℕ) (at : ℕ) (scores : Scores) → ((k : ℕ) → f (at + k) ≡ get_or (told scores) k 0) → shown f at (map is_some scores) ≡ scores
shown_told f at [] same = refl
shown_told f at (None ∷ scores) same = ap (λ (l : Scores). None ∷ l) (shown_told f at scores same)
shown_told f at (Some s ∷ scores) same =
    let here : at + 0 ≡ at = omega arith in
    let own : f at ≡ s = ap f (sym here) ∙ same 0 in
    ap (λ n. Some n ∷ shown f (suc at) (map is_some scores)) own
    ∙ ap (λ (l : Scores). Some s ∷ l) (shown_told f (suc at) scores (λ k. let next : suc at + k ≡ at + suc k = omega arith in ap f next ∙ same (suc k)))

pub shown_sum : (flags : List Bool) (it : Parts) → IsSum flags it → shown (λ k. get_or (told (summed it)) k 0) 0 flags ≡ summed it
shown_sum flags it is =
    ap (shown (λ k. get_or (told (summed it)) k 0) 0) is.over
    ∙ shown_told (λ k. get_or (told (summed it)) k 0) 0 (summed it) (λ k. let same : 0 + k ≡ k = omega arith in ap (λ n. get_or (told (summed it)) n 0) same)

pub told_at : (scores : Scores) (doc : ℕ) (score : Option ℕ) → get_or (map is_some scores) doc false ≡ true → score ≡ get_or scores doc None → or_zero score ≡ get_or (told scores) (marks (take doc (map is_some scores))) 0
told_at [] doc score set is = absurd (let no : ⊥ = cc in no)
told_at (None ∷ scores) zero score set is = absurd (let no : ⊥ = cc in no)
told_at (Some s ∷ scores) zero score set is = ap or_zero is
told_at (None ∷ scores) (suc doc) score set is = told_at scores doc score set is
told_at (Some s ∷ scores) (suc doc) score set is = told_at scores doc score set is

-- some scores of a range
some_told : (k n : ℕ) (scores : Scores) → FirstAt is_some k scores → k < n → 0 < length (told (take n scores))
some_told k zero scores first below = absurd (omega (arith, below))
some_told zero (suc n) [] first below = absurd first
some_told zero (suc n) (None ∷ scores) first below = absurd (let no : ⊥ = cc in no)
some_told zero (suc n) (Some s ∷ scores) first below = omega arith
some_told (suc k) (suc n) [] first below = absurd first
some_told (suc k) (suc n) (None ∷ scores) first below = some_told k n scores first.1 (omega (arith, below))
some_told (suc k) (suc n) (Some s ∷ scores) first below = omega arith

nothing_told : (n : ℕ) (scores : Scores) → NoneIn is_some n scores → told (take n scores) ≡ []
nothing_told zero scores none = refl
nothing_told (suc n) [] none = refl
nothing_told (suc n) (None ∷ scores) none = nothing_told n scores none.1
nothing_told (suc n) (Some s ∷ scores) none = absurd (let no : true ≡ false = none.0 in cc)

sum_of : (scores : List ℕ) → 0 < length scores → Some (capped (sum scores)) ≡ mode_of Sum scores
sum_of [] some = absurd (omega (arith, some))
sum_of (s ∷ scores) some = refl

pub sum_some : (scores : Scores) (from end doc : ℕ) → next_place is_some from scores ≡ Some doc → doc < end → Some (capped (sum (between scores from end))) ≡ mode_of Sum (between scores from end)
sum_some scores from end doc is below =
    let found = first_at is_some from (drop from scores) doc is in
    sum_of (between scores from end) (some_told found.ahead (end - from) (drop from scores) found.first (omega (arith, found.place, below)))

pub sum_none : (scores : Scores) (from end : ℕ) → next_place is_some from scores ≡ None → None ≡ mode_of Sum (between scores from end)
sum_none scores from end is = sym (ap (mode_of Sum) (nothing_told (end - from) (drop from scores) (none_at is_some from (drop from scores) (end - from) is)))

pub sum_later : (scores : Scores) (from end doc : ℕ) → next_place is_some from scores ≡ Some doc → end ≤ doc → None ≡ mode_of Sum (between scores from end)
sum_later scores from end doc is late =
    let found = first_at is_some from (drop from scores) doc is in
    sym (ap (mode_of Sum) (nothing_told (end - from) (drop from scores) (none_before is_some (end - from) found.ahead (drop from scores) found.first (omega (arith, found.place, late)))))

-- ---- how scores are kept

marked_below : (flags : List Bool) (doc : ℕ) → get_or flags doc false ≡ true → marks (take doc flags) < marks flags
marked_below [] doc is = absurd (let no : ⊥ = cc in no)
marked_below (true ∷ flags) zero is = omega arith
marked_below (false ∷ flags) zero is = absurd (let no : ⊥ = cc in no)
marked_below (true ∷ flags) (suc doc) is = omega (arith, marked_below flags doc is)
marked_below (false ∷ flags) (suc doc) is = marked_below flags doc is

set_below : (flags : List Bool) (doc : ℕ) → get_or flags doc false ≡ true → doc < length flags
set_below [] doc is = absurd (let no : ⊥ = cc in no)
set_below (flag ∷ flags) zero is = omega arith
set_below (flag ∷ flags) (suc doc) is = omega (arith, set_below flags doc is)

pub sum_long : (flags : List Bool) (it : Parts) → IsSum flags it → length (summed it) ≡ it.len
sum_long flags it is = summed_long it.len (replicate it.len None) it.parts.items is.parts (length-replicate {A = Option ℕ} it.len None)

module _ (flags : List Bool) (form : Form) (own : Vec ℕ Global) (at doc : ℕ) (is : form ≡ Listed own) (read : IsRead flags form at doc) where
  known_listed : IsRead flags (Listed own) at doc
  known_listed = subst (λ (f : Form). IsRead flags f at doc) is read

  pub listed_within : at < length own.items
  listed_within = omega (arith, known_listed.placed, known_listed.are.kept, marked_below flags doc known_listed.set)

  pub listed_score : get_or own.items at 0 ≡ kept_score form (marks (take doc flags))
  listed_score = ap (λ n. get_or own.items n 0) known_listed.placed ∙ ap (λ (f : Form). kept_score f (marks (take doc flags))) (sym is)

module _ (flags : List Bool) (form : Form) (held : Box Parts Global) (is : form ≡ Summed held) where
  pub kept_sum : AreKept flags form → IsSum flags held.value
  kept_sum are = subst (λ (f : Form). IsKept flags f) is are.kept

  pub kept_view : AreKept flags form → (all : Scores) → shown (kept_score form) 0 flags ≡ all → summed held.value ≡ all
  kept_view are all view = sym (shown_sum flags held.value (kept_sum are)) ∙ ap (λ (f : Form). shown (kept_score f) 0 flags) (sym is) ∙ view

  pub kept_len : AreKept flags form → (all : Scores) → shown (kept_score form) 0 flags ≡ all → held.value.len ≡ length all
  kept_len are all view = sym (sum_long flags held.value (kept_sum are)) ∙ ap length (kept_view are all view)

  module _ (at doc : ℕ) (read : IsRead flags form at doc) where
    pub read_within : doc < held.value.len
    read_within =
        let sum = kept_sum read.are in
        omega (arith, set_below flags doc read.set, ap length sum.over, length-map (summed held.value) (is_some {T = ℕ}), sum_long flags held.value sum)

    pub read_sum : (score : Option ℕ) → score ≡ get_or (summed held.value) doc None → or_zero score ≡ kept_score form (marks (take doc flags))
    read_sum score own =
        let over = (kept_sum read.are).over in
        told_at (summed held.value) doc score (ap (λ (l : List Bool). get_or l doc false) (sym over) ∙ read.set) own
        ∙ ap (λ (l : List Bool). get_or (told (summed held.value)) (marks (take doc l)) 0) (sym over)
        ∙ ap (λ (f : Form). kept_score f (marks (take doc flags))) (sym is)

pub view_flags : (flags : List Bool) (form : Form) (all : Scores) → shown (kept_score form) 0 flags ≡ all → flags ≡ map is_some all
view_flags flags form all view = sym (shown_set (kept_score form) 0 flags) ∙ ap (map is_some) view

pub view_flags_long : (flags : List Bool) (form : Form) (all : Scores) → shown (kept_score form) 0 flags ≡ all → length flags ≡ length all
view_flags_long flags form all view = sym (length_shown (kept_score form) 0 flags) ∙ ap length view

pub some_same : (made : Option Scores) (one other : Scores) → one ≡ other → IfSome made (λ (m : Scores). m ≡ one) → IfSome made (λ (m : Scores). m ≡ other)
some_same None one other same is = tt
some_same (Some m) one other same is = is ∙ same
