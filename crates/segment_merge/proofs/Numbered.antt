-- The new numbers of documents, and entries as parts.
use Rattle.std.proofs.Common.{◌≡◌, ℕ, zero, suc, ◌+◌, ◌<◌, Bool, true, false, cond, List, [], ◌∷◌, ◌++◌, length, get_or, drop, take, Some, refl, sym, ap, ◌∙◌, arith}
use Rattle.std.specs.List.{count_by, flat_map}
use Rattle.std.proofs.lemmas.List.{drop_more}
use Rattle.std.proofs.lemmas.List.Sums.{sum_by-cons}
use Rattle.block_bits.specs.Flags.{is_marked}
use Rattle.segment.specs.Live.{EntryState}
use Rattle.segment_parts.specs.Marks.{count-mark}
use Rattle.segment_merge.specs.Merged.{from_each, live_count, live_count_of, renumbered}
use Rattle.segment_merge.specs.Numbering.{PartState, live_in, new_number, numbers_from, parts_from}

pub length-numbers_from : (base : ℕ) (live : List Bool) → length (numbers_from base live) ≡ length live
length-numbers_from base [] = refl
length-numbers_from base (flag ∷ live) = omega (arith, length-numbers_from (cond flag (base + 1) base) live)

-- what stands at a document is its new number
pub numbers_at : (base : ℕ) (live : List Bool) (doc : ℕ) → doc < length live → get_or (numbers_from base live) doc 0 ≡ renumbered base live doc
numbers_at base [] doc h = absurd (omega (arith, h))
numbers_at base (flag ∷ live) zero h = omega arith
numbers_at base (true ∷ live) (suc doc) h = numbers_at (base + 1) live doc (omega (arith, h)) ∙ omega (arith, count-mark true (take doc live))
numbers_at base (false ∷ live) (suc doc) h = numbers_at base live doc (omega (arith, h)) ∙ omega (arith, count-mark false (take doc live))

-- one document more
pub numbers_more : (next : ℕ) (live : List Bool) (doc : ℕ) → doc < length live → numbers_from next (drop doc live) ≡ next ∷ numbers_from (cond (get_or live doc false) (next + 1) next) (drop (doc + 1) live)
numbers_more next live doc h = ap (numbers_from next) (drop_more live doc false h)

flag_more : (next : ℕ) (flag : Bool) (flags : List Bool) → cond flag (next + 1) next + count_by is_marked flags ≡ next + count_by is_marked (flag ∷ flags)
flag_more next true flags = omega (arith, count-mark true flags)
flag_more next false flags = omega (arith, count-mark false flags)

pub count_more : (next : ℕ) (live : List Bool) (doc : ℕ) → doc < length live
    → cond (get_or live doc false) (next + 1) next + count_by is_marked (drop (doc + 1) live) ≡ next + count_by is_marked (drop doc live)
count_more next live doc h =
    flag_more next (get_or live doc false) (drop (doc + 1) live) ∙ ap (λ (flags : List Bool). next + count_by is_marked flags) (sym (drop_more live doc false h))

-- ---- entries as parts

pub from_each_parts : {X : Type 0} (get : ℕ → EntryState → List X) (base : ℕ) (entries : List EntryState)
    → from_each get base entries ≡ flat_map (λ (part : PartState). get part.base part.entry) (parts_from base entries)
from_each_parts get base [] = refl
from_each_parts {X} get base (entry ∷ entries) = ap (λ (rest : List X). get base entry ++ rest) (from_each_parts get (base + live_count entry) entries)

pub live_in_parts : (base : ℕ) (entries : List EntryState) → live_in (parts_from base entries) ≡ live_count_of entries
live_in_parts base [] = refl
live_in_parts base (entry ∷ entries) =
    sum_by-cons (λ (part : PartState). live_count part.entry) (record { base = base; entry = entry }) (parts_from (base + live_count entry) entries)
    ∙ ap (λ n. live_count entry + n) (live_in_parts (base + live_count entry) entries)
    ∙ sym (sum_by-cons live_count entry entries)

-- ---- one look-up

pub number_is : (part : PartState) (doc number : ℕ) (is : Bool) → is ≡ true → is ≡ get_or part.entry.live.docs doc false → doc < length part.entry.live.docs → number ≡ get_or (numbers_from part.base part.entry.live.docs) doc 0
    → Some number ≡ new_number part doc
number_is part doc number is on flag inside read =
    let live : get_or part.entry.live.docs doc false ≡ true = sym flag ∙ on in
    rw live (ap Some (read ∙ numbers_at part.base part.entry.live.docs doc inside))
