-- Bytes of the form from before mappings grew, and how many scopes they have.
use Rattle.std.proofs.Common.{◌≡◌, ℕ, ◌+◌, List, length, Option, None, Some, unwrap_or, sym, ◌∙◌, ap, subst, arith}
use Rattle.segment.specs.Old.{IsOldEncoding}
use Rattle.segment_parts.specs.declared.columns.Columns.{Columns}
use Rattle.store_opening.specs.Segments.{IsOldText}

some_is : (a b : ℕ) → Some a ≡ Some b → a ≡ b
some_is a b same = ap (λ (it : Option ℕ). unwrap_or it 0) same

pub old_text_of : (scope_count count : ℕ) (columns : Columns) (bytes slice : List ℕ) (counted : Option ℕ) → slice ≡ bytes
    → ((others : Columns) (old : IsOldEncoding others slice) → counted ≡ Some (length others.scopes + old.more)) → counted ≡ Some count
    → count ≡ scope_count → IsOldEncoding columns bytes → IsOldText scope_count columns bytes
old_text_of scope_count count columns bytes slice counted same is counts equal old =
    let there : IsOldEncoding columns slice = subst (λ (xs : List ℕ). IsOldEncoding columns xs) (sym same) old in
    subst (λ (xs : List ℕ). IsOldText scope_count columns xs) same
    (record { encoding = there; scopes = some_is (length columns.scopes + there.more) count (sym (is columns there) ∙ counts) ∙ equal })

pub no_count : (scope_count : ℕ) (columns : Columns) (bytes slice : List ℕ) (counted : Option ℕ) → slice ≡ bytes
    → ((others : Columns) (old : IsOldEncoding others slice) → counted ≡ Some (length others.scopes + old.more)) → counted ≡ None
    → IsOldText scope_count columns bytes → ⊥
no_count scope_count columns bytes slice counted same is none it =
    let there : IsOldText scope_count columns slice = subst (λ (xs : List ℕ). IsOldText scope_count columns xs) (sym same) it in
    grind (arith, sym none ∙ is columns there.encoding)

pub other_count : (scope_count count : ℕ) (columns : Columns) (bytes slice : List ℕ) (counted : Option ℕ) → slice ≡ bytes
    → ((others : Columns) (old : IsOldEncoding others slice) → counted ≡ Some (length others.scopes + old.more)) → counted ≡ Some count
    → (count ≡ scope_count → ⊥) → IsOldText scope_count columns bytes → ⊥
other_count scope_count count columns bytes slice counted same is counts other it =
    let there : IsOldText scope_count columns slice = subst (λ (xs : List ℕ). IsOldText scope_count columns xs) (sym same) it in
    other (some_is count (length columns.scopes + there.encoding.more) (sym counts ∙ is columns there.encoding) ∙ there.scopes)

pub ruleset forms = (old_text_of, no_count, other_count)
