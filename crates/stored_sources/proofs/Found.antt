-- What was read from a place on stands there, and where nothing was read no roots stand.
use Rattle.std.proofs.Common.{◌≡◌, ℕ, ◌+◌, ◌-◌, ◌<◌, ◌≤◌, ◌^◌, List, ◌++◌, length, drop, Option, Some, None, refl, sym, ap, ◌∙◌, arith}
use Rattle.std.specs.List.{All}
use Rattle.std.proofs.lemmas.List.{drop_at, drop-drop, length-append, length-drop}
use Rattle.std.proofs.lemmas.Option.{none-some}
use Rattle.part_text.specs.Reads.{IsBytes, IsBytes-drop}
use Rattle.part_text.specs.Places.{places_from}
use Rattle.part_text.specs.Placed.{ArePlaced}
use Rattle.stored_sources.specs.declared.root.Root.{Root}
use Rattle.stored_sources.specs.Text.{root_text, roots_text}
use Rattle.stored_sources.specs.Stands.{IsRoot, AreRoots, Stands}
use Rattle.stored_sources.specs.Reading.{root_at, roots_at, roots_take, roots_again}

pub no_roots : (bytes : List ℕ) (at count : ℕ) → roots_at count (drop at bytes) ≡ None → (own : List Root) (rest : List ℕ) → length own ≡ count → AreRoots own → drop at bytes ≡ roots_text own ++ rest → ⊥
no_roots bytes at count none own rest long are there =
    none-some (own, rest) (sym none ∙ ap (λ n. roots_at n (drop at bytes)) (sym long) ∙ ap (roots_at (length own)) there ∙ roots_again own rest are.each)

-- the roots that were read, and where they end
pub record Found (bytes : List ℕ) (at count : ℕ) (rest places : List ℕ) : Type 0 where
  pub within : length rest ≤ length bytes
  pub roots : List Root
  pub long : length roots ≡ count
  pub stands : Stands bytes at roots places (length bytes - length rest)

pub found : (bytes : List ℕ) (at count : ℕ) (rest places : List ℕ) → IsBytes bytes → at ≤ length bytes → count < 2 ^ 32 → ArePlaced (λ _. tt {0}) root_text (λ _. root_at) count (drop at bytes) (length bytes - length (drop at bytes)) rest places → Found bytes at count rest places
unfolding roots_at
found bytes at count rest places fits inside few placed =
    let roots : List Root = placed.items in
    let taken = roots_take count (drop at bytes) roots rest (IsBytes-drop at bytes fits) placed.is in
    let long : length bytes - at ≡ length (roots_text roots) + length rest = sym (length-drop at bytes) ∙ ap length taken.parts ∙ length-append (roots_text roots) rest in
    let ends : length bytes - length rest ≡ at + length (roots_text roots) = omega (arith, long, inside) in
    let behind : drop (length bytes - length rest) bytes ≡ rest =
    ap (λ place. drop place bytes) ends ∙ sym (drop-drop (length (roots_text roots)) at bytes) ∙ ap (drop (length (roots_text roots))) taken.parts ∙ drop_at (roots_text roots) rest (length (roots_text roots)) refl in
    let starts : length bytes - length (drop at bytes) ≡ at = omega (arith, inside, length-drop at bytes) in
    record {
      within = omega (arith, long, inside);
      roots = roots;
      long = taken.long;
      stands = record {
        are = record { fewer = omega (arith, taken.long, few); each = taken.each };
        there = taken.parts ∙ ap (λ last. roots_text roots ++ last) (sym behind);
        ends = ends;
        within = omega arith;
        placed = placed.placed ∙ ap (λ place. places_from root_text place roots) starts;
      };
    }

some_is : {A : Type 0} (x y : A) → ◌≡◌ {A = Option A} (Some x) (Some y) → x ≡ y
some_is x y e = cc

-- roots and what stands behind them are one way to part the bytes
pub one_text : (roots others : List Root) (rest more : List ℕ) → length roots ≡ length others → All IsRoot roots → All IsRoot others → roots_text roots ++ rest ≡ roots_text others ++ more → (roots ≡ others) × (rest ≡ more)
one_text roots others rest more long are other_are same =
    let e : (roots, rest) ≡ (others, more) = some_is (roots, rest) (others, more)
    (sym (roots_again roots rest are) ∙ ap (roots_at (length roots)) same ∙ ap (λ n. roots_at n (roots_text others ++ more)) long ∙ roots_again others more other_are) in
    (ap (λ (p : List Root × List ℕ). p.0) e, ap (λ (p : List Root × List ℕ). p.1) e)
