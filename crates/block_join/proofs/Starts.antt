-- Where the documents inside a parent begin.
use Rattle.std.proofs.Common.{◌≡◌, ℕ, suc, ◌+◌, ◌-◌, ◌<◌, Bool, false, List, ◌∷◌, length, take, get_or, sym, ap, ◌∙◌, arith, length-append, length-take-le, get_or-take, get_or-append-add}
use Rattle.block_bits.specs.Flags.{is_marked}
use Rattle.block_bits.specs.Places.{AllFail, IsLast}
use Rattle.block_join.specs.Kept.{IsStart}

-- a parent comes before it
pub start_behind : (flags : List Bool) (parent previous : ℕ) → parent < length flags → IsLast is_marked 0 (take parent flags) previous → IsStart flags parent (previous + 1)
start_behind flags parent previous h it =
    let long : length (take parent flags) ≡ parent = length-take-le parent flags (omega (arith, h)) in
    let parts : length (take parent flags) ≡ length it.before + length (it.own ∷ it.after) = ap length it.split ∙ length-append it.before (it.own ∷ it.after) in
    let first : previous ≡ length it.before = omega (arith, it.place) in
    let at_place : (m : ℕ) → length it.before + m < parent → get_or flags (length it.before + m) false ≡ get_or (it.own ∷ it.after) m false =
    λ m below. sym (get_or-take parent flags (length it.before + m) false below) ∙ ap (λ (bs : List Bool). get_or bs (length it.before + m) false) it.split ∙ get_or-append-add it.before (it.own ∷ it.after) m false in
    record {
      within = omega (arith, long, parts, first);
      behind = λ at e.
          let place : length it.before + 0 ≡ at = omega (arith, e, first) in
          ap (λ n. get_or flags n false) (sym place) ∙ at_place 0 (omega (arith, long, parts)) ∙ it.passes;
      free = λ at later below.
          let m : ℕ = at - (previous + 1) in
          let place : length it.before + suc m ≡ at = omega (arith, later, first) in
          ap (λ n. get_or flags n false) (sym place) ∙ at_place (suc m) (omega (arith, below, place)) ∙ it.fail m false (omega (arith, long, parts, below, first, later));
    }

-- none comes before it
pub start_first : (flags : List Bool) (parent : ℕ) → parent < length flags → AllFail is_marked (take parent flags) → IsStart flags parent 0
start_first flags parent h none = record {
  within = omega arith;
  behind = λ at e. absurd (omega (arith, e));
  free = λ at later below. sym (get_or-take parent flags at false below) ∙ none at false (omega (arith, below, length-take-le parent flags (omega (arith, h))));
}
