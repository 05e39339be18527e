-- The number of scopes in the older form of a segment: four bytes, behind as many for the form and for the documents.
use Rattle.std.proofs.Common.{◌≡◌, ℕ, zero, suc, ◌+◌, ◌≤◌, Bool, false, List, [], ◌∷◌, ◌++◌, length, drop, replicate, refl, sym, ap, ◌∙◌, append_assoc, arith}
use Rattle.std.specs.List.{flat_map}
use Rattle.std.proofs.lemmas.List.{length-append, length-replicate}
use Rattle.part_text.specs.Front.{first_u32}
use Rattle.part_text.specs.Reads.{first_u32-text, length-u32_text}
use Rattle.part_text.specs.Text.{u32_text}
use Rattle.segment_parts.specs.Text.{scope_text}
use Rattle.segment_parts.specs.declared.columns.Columns.{Columns}
use Rattle.segment.specs.Old.{old_magic, old_text, behind_roots, no_documents, IsOldEncoding}
use Rattle.stored_sources.specs.Text.{old_root_text}

drop_front : (xs ys : List ℕ) (n : ℕ) → n ≡ length xs → drop n (xs ++ ys) ≡ ys
drop_front [] ys n long = rw long refl
drop_front (x ∷ xs) ys zero long = absurd (omega (arith, long))
drop_front (x ∷ xs) ys (suc n) long = drop_front xs ys n (omega (arith, long))

all_scopes : Columns → ℕ → List (List Bool)
all_scopes columns more = columns.scopes ++ no_documents columns.documents more

how_many : (columns : Columns) (more : ℕ) → length (all_scopes columns more) ≡ length columns.scopes + more
unfolding all_scopes
how_many columns more =
    length-append columns.scopes (no_documents columns.documents more)
    ∙ ap (λ n. length columns.scopes + n) (length-replicate more (replicate columns.documents false))

behind_count : Columns → ℕ → List ℕ
behind_count columns more = flat_map scope_text (all_scopes columns more) ++ (flat_map old_root_text columns.roots ++ behind_roots columns)

parts_are : (columns : Columns) (more : ℕ)
    → old_text columns more ≡ old_magic ++ (u32_text columns.documents ++ (u32_text (length (all_scopes columns more)) ++ behind_count columns more))
unfolding old_text all_scopes behind_count
parts_are columns more =
    ap (λ (xs : List ℕ). old_magic ++ (u32_text columns.documents ++ xs))
    (append_assoc (u32_text (length (all_scopes columns more))) (flat_map scope_text (all_scopes columns more)) (flat_map old_root_text columns.roots ++ behind_roots columns))

at_eight : (columns : Columns) (more : ℕ) → drop 8 (old_text columns more) ≡ u32_text (length (all_scopes columns more)) ++ behind_count columns more
at_eight columns more =
    let own = u32_text (length (all_scopes columns more)) ++ behind_count columns more in
    ap (drop 8) (parts_are columns more)
    ∙ drop_front (u32_text columns.documents) own 4 (sym (length-u32_text columns.documents))

pub count_is : (columns : Columns) (bytes : List ℕ) (old : IsOldEncoding columns bytes) → first_u32 (drop 8 bytes) ≡ length columns.scopes + old.more
count_is columns bytes old =
    let n = length (all_scopes columns old.more) in
    ap (λ (xs : List ℕ). first_u32 (drop 8 xs)) old.text
    ∙ ap first_u32 (at_eight columns old.more)
    ∙ first_u32-text n (behind_count columns old.more) (omega (arith, how_many columns old.more, old.fewer))
    ∙ how_many columns old.more

-- so many bytes there are
pub long_enough : (columns : Columns) (bytes : List ℕ) → IsOldEncoding columns bytes → 12 ≤ length bytes
long_enough columns bytes old =
    let own = u32_text (length (all_scopes columns old.more)) in
    let rest = behind_count columns old.more in
    omega (
      arith,
      ap length (old.text ∙ parts_are columns old.more),
      length-append old_magic (u32_text columns.documents ++ (own ++ rest)),
      length-append (u32_text columns.documents) (own ++ rest),
      length-append own rest,
      length-u32_text columns.documents,
      length-u32_text (length (all_scopes columns old.more)),
    )
