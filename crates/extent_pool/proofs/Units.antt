-- The maximal runs of free units are the gaps between extents that stand in order.
use Rattle.std.proofs.Common.{◌≡◌, ℕ, zero, suc, ◌+◌, ◌-◌, ◌*◌, ◌/◌, ◌<◌, ◌≤◌, ◌==◌, Bool, true, false, not, List, [], ◌∷◌, ◌++◌, refl, sym, ap, ◌∙◌, subst, arith}
use Rattle.std.proofs.lemmas.List.{append-nil}
use Rattle.std.specs.List.{list_any}
use Rattle.extent_pool.specs.declared.extent.TheConstants.{UNIT}
use Rattle.extent_pool.specs.declared.extent.Extent.{Extent}
use Rattle.extent_pool.specs.Extents.{end_of, keeps}
use Rattle.extent_pool.specs.Holes.{is_free, with_unit, runs}
use Rattle.extent_pool.specs.Gaps.{AreLaid, gap, gaps}

-- No extent keeps a byte before the first.
free_before : (es : List Extent) (from end byte : ℕ) → AreLaid from es end → byte < from → list_any (keeps byte) es ≡ false
free_before [] from end byte laid h = refl
free_before (e ∷ es) from end byte laid h = grind (arith, free_before es (end_of e) end byte laid.3)

-- Units at which two tests agree have the same runs.
pub same_runs : (f g : ℕ → Bool) (unit count : ℕ) → ((i : ℕ) → unit ≤ i → f i ≡ g i) → runs f unit count ≡ runs g unit count
same_runs f g unit zero h = refl
same_runs f g unit (suc count) h = grind (arith, h unit, same_runs f g (unit + 1) count (λ i l. h i (omega arith)))

-- Units that are not free are passed over.
past_taken : (f : ℕ → Bool) (unit k n m to : ℕ) → m ≡ k + n → to ≡ unit + k → ((i : ℕ) → unit ≤ i → i < to → f i ≡ false) → runs f unit m ≡ runs f to n
past_taken f unit zero n m to e g h =
    let same_count : m ≡ n = omega arith in let same_unit : to ≡ unit = omega arith in cc
past_taken f unit (suc k) n zero to e g h = absurd (omega arith)
past_taken f unit (suc k) n (suc m) to e g h = grind (arith, h unit, past_taken f (unit + 1) k n m to (omega arith) (omega arith) (λ i l. h i (omega arith)))

-- The first of the holes doesn't begin at the place.
abbrev begins_elsewhere : ℕ → List Extent → Bool
begins_elsewhere at [] = true
begins_elsewhere at (h ∷ hs) = not (h.at == at)

gaps_behind : (es : List Extent) (from end at : ℕ) → AreLaid from es end → at < from → begins_elsewhere at (gaps from es end) ≡ true
gaps_behind [] from end at laid h = grind arith
gaps_behind (e ∷ es) from end at laid h =
    let behind : at < end_of e = omega arith in grind (arith, gaps_behind es (end_of e) end at laid.3 behind)

-- A free unit in front of a gap makes it longer.
unit_in_front : (unit to : ℕ) (hs : List Extent) → unit < to → begins_elsewhere (to * UNIT) hs ≡ true → with_unit unit (gap ((unit + 1) * UNIT) (to * UNIT) ++ hs) ≡ gap (unit * UNIT) (to * UNIT) ++ hs
unit_in_front unit to [] l h = grind arith
unit_in_front unit to (x ∷ xs) l h = grind arith

-- Free units are a gap.
past_free : (f : ℕ → Bool) (unit k n m to : ℕ) → m ≡ k + n → to ≡ unit + k → ((i : ℕ) → unit ≤ i → i < to → f i ≡ true) → begins_elsewhere (to * UNIT) (runs f to n) ≡ true → runs f unit m ≡ gap (unit * UNIT) (to * UNIT) ++ runs f to n
past_free f unit zero n m to e g h b =
    let same_count : m ≡ n = omega arith in let same_unit : to ≡ unit = omega arith in grind arith
past_free f unit (suc k) n zero to e g h b = absurd (omega arith)
past_free f unit (suc k) n (suc m) to e g h b =
    let rest = past_free f (unit + 1) k n m to (omega arith) (omega arith) (λ i l. h i (omega arith)) b in
    let is_free_here : f unit ≡ true = h unit (omega arith) (omega arith) in
    rw (is_free_here, rest) (unit_in_front unit to (runs f to n) (omega arith) b)

-- The unit is one of the extent, or it is not.
keeps_inside : (e : Extent) (byte : ℕ) → e.at ≤ byte → byte < end_of e → keeps byte e ≡ true
keeps_inside e byte l h = grind arith

keeps_behind : (e : Extent) (byte : ℕ) → end_of e ≤ byte → keeps byte e ≡ false
keeps_behind e byte h = grind arith

-- Units before an extent that stands in front are free, its own are not, and those behind it are as without it.
free_in_front : (e : Extent) (es : List Extent) (unit end : ℕ) → AreLaid (end_of e) es end → unit * UNIT < e.at → is_free (e ∷ es) unit ≡ true
free_in_front e es unit end laid h = grind (arith, free_before es (end_of e) end (unit * UNIT) laid)

taken_inside : (e : Extent) (es : List Extent) (unit : ℕ) → e.at ≤ unit * UNIT → unit * UNIT < end_of e → is_free (e ∷ es) unit ≡ false
taken_inside e es unit l h = grind (arith, keeps_inside e (unit * UNIT) l h)

same_behind : (e : Extent) (es : List Extent) (unit : ℕ) → end_of e ≤ unit * UNIT → is_free (e ∷ es) unit ≡ is_free es unit
same_behind e es unit h = grind (arith, keeps_behind e (unit * UNIT) h)

past_extent : (e : Extent) (es : List Extent) (unit count start stop rest end : ℕ) → e.at ≡ start * UNIT → end_of e ≡ stop * UNIT → unit ≤ start → start < stop → unit + count ≡ stop + rest → AreLaid (end_of e) es end → runs (is_free es) stop rest ≡ gaps (end_of e) es end → runs (is_free (e ∷ es)) unit count ≡ gap (unit * UNIT) e.at ++ gaps (end_of e) es end
past_extent e es unit count start stop rest end at_is end_is l s sum laid inner =
    let behind : runs (is_free (e ∷ es)) stop rest ≡ runs (is_free es) stop rest =
    same_runs (is_free (e ∷ es)) (is_free es) stop rest (λ i l. same_behind e es i (omega arith)) in
    let from_start : runs (is_free (e ∷ es)) start (stop - start + rest) ≡ gaps (end_of e) es end =
    past_taken (is_free (e ∷ es)) start (stop - start) rest (stop - start + rest) stop refl (omega arith) (λ i l h. taken_inside e es i (omega arith) (omega arith)) ∙ (behind ∙ inner) in
    let elsewhere : begins_elsewhere (start * UNIT) (runs (is_free (e ∷ es)) start (stop - start + rest)) ≡ true =
    ap (begins_elsewhere (start * UNIT)) from_start ∙ gaps_behind es (end_of e) end (start * UNIT) laid (omega arith) in
    past_free (is_free (e ∷ es)) unit (start - unit) (stop - start + rest) count start (omega arith) (omega arith) (λ i l h. free_in_front e es i end laid (omega arith)) elsewhere
    ∙ (ap (λ hs. gap (unit * UNIT) (start * UNIT) ++ hs) from_start ∙ ap (λ n. gap (unit * UNIT) n ++ gaps (end_of e) es end) (sym at_is))

pub laid_order : (es : List Extent) (from end : ℕ) → AreLaid from es end → from ≤ end
laid_order [] from end laid = laid
laid_order (e ∷ es) from end laid = omega (arith, laid_order es (end_of e) end laid.3)

-- The holes are the gaps, where the extents stand in order.
pub runs_are_gaps : (es : List Extent) (unit count end : ℕ) → end ≡ (unit + count) * UNIT → AreLaid (unit * UNIT) es end → runs (is_free es) unit count ≡ gaps (unit * UNIT) es end
runs_are_gaps [] unit count end is laid =
    past_free (is_free []) unit count 0 count (unit + count) (omega arith) refl (λ i l h. refl) refl
    ∙ (append-nil (gap (unit * UNIT) ((unit + count) * UNIT)) ∙ ap (gap (unit * UNIT)) (sym is))
runs_are_gaps (e ∷ es) unit count end is laid =
    let stop : end_of e ≡ end_of e / UNIT * UNIT = omega arith in
    let order : end_of e ≤ end = laid_order es (end_of e) end laid.3 in
    let inner : runs (is_free es) (end_of e / UNIT) (unit + count - end_of e / UNIT) ≡ gaps (end_of e / UNIT * UNIT) es end =
    runs_are_gaps es (end_of e / UNIT) (unit + count - end_of e / UNIT) end (omega arith) (subst (λ n. AreLaid n es end) stop laid.3) in
    past_extent e es unit count (e.at / UNIT) (end_of e / UNIT) (unit + count - end_of e / UNIT) end (omega arith) stop (omega arith) (omega arith) (omega arith) laid.3
    (inner ∙ ap (λ n. gaps n es end) (sym stop))
