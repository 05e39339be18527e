-- Bytes of the older form are those of one segment at most.
use Rattle.std.proofs.Common.{◌≡◌, ◌∙◌, inl, inr, ℕ, zero, suc, ◌+◌, ◌-◌, ◌<◌, ◌≤◌, ◌^◌, Bool, false, List, [], ◌++◌, length, get_or, take, drop, replicate, All, refl, sym, ap, append_assoc, arith}
use Rattle.std.specs.List.{flat_map, count_by}
use Rattle.std.proofs.lemmas.Bool.{cases_lt}
use Rattle.std.proofs.lemmas.List.{get_or_append_left, get_or-append_right, get_or-replicate, length-append, length-replicate, take_at}
use Rattle.std.proofs.lemmas.List.Elements.{All-append, All-replicate}
use Rattle.block_bits.specs.Flags.{is_marked}
use Rattle.part_text.specs.Text.{u32_text, counted_text}
use Rattle.stored_sources.specs.declared.root.Root.{Root}
use Rattle.stored_sources.specs.Text.{old_root_text, roots_text}
use Rattle.stored_sources.specs.Stands.{IsOldRoot}
use Rattle.segment_parts.specs.Agree.{AreColumns}
use Rattle.segment_parts.specs.Heads.{OneSet, head_once}
use Rattle.segment_parts.specs.Marks.{count-mark}
use Rattle.segment_parts.specs.Once.{IsOnce, many_once}
use Rattle.segment_parts.specs.Parts.{IsHead, root_flags}
use Rattle.segment_parts.specs.Text.{magic, scope_text, head_text, rows_part, segment_text}
use Rattle.segment_parts.specs.Whole.{segment_once}
use Rattle.segment_parts.specs.declared.columns.Columns.{Columns}
use Rattle.segment.specs.Old.{no_documents, behind_roots, old_parts, old_text, IsOldEncoding}

abbrev pub OneOldRoot : Type 0
OneOldRoot = IsOnce old_root_text IsOldRoot

abbrev all_scopes : Columns → ℕ → List (List Bool)
all_scopes columns more = columns.scopes ++ no_documents columns.documents more

-- ---- the scopes that have documents

no_marks : (n : ℕ) → count_by is_marked (replicate n false) ≡ 0
no_marks zero = refl
no_marks (suc n) = omega (arith, no_marks n, count-mark false (replicate n false))

how_many : (columns : Columns) (more : ℕ) → length (all_scopes columns more) ≡ length columns.scopes + more
how_many columns more =
    length-append columns.scopes (no_documents columns.documents more) ∙ ap (λ n. length columns.scopes + n) (length-replicate more (replicate columns.documents false))

-- the last scope of columns has documents
not_fewer : (one other : Columns) (more further : ℕ) → AreColumns other → all_scopes one more ≡ all_scopes other further → length one.scopes < length other.scopes → ⊥
not_fewer one other more further are same fewer =
    let at : ℕ = length other.scopes - 1 in
    let long : length one.scopes + more ≡ length other.scopes + further = sym (how_many one more) ∙ ap (λ (scopes : List (List Bool)). length scopes) same ∙ how_many other further in
    let inside : at - length one.scopes < more = omega (arith, long, fewer) in
    let none : get_or (all_scopes one more) at [] ≡ replicate one.documents false
    = get_or-append_right one.scopes (no_documents one.documents more) (length one.scopes) at [] refl (omega (arith, fewer))
    ∙ get_or-replicate more (at - length one.scopes) (replicate one.documents false) [] inside in
    let own : get_or (all_scopes other further) at [] ≡ get_or other.scopes at []
    = get_or_append_left other.scopes (no_documents other.documents further) [] at (omega (arith, fewer)) in
    let marks : count_by is_marked (get_or other.scopes at []) ≡ 0
    = ap (λ flags. count_by is_marked flags) (sym own ∙ ap (λ (scopes : List (List Bool)). get_or scopes at []) (sym same) ∙ none) ∙ no_marks one.documents in
    let some : 1 ≤ count_by is_marked (get_or other.scopes at []) = are.rooted.greatest in
    omega (arith, marks, some)

same_count : (one other : Columns) (more further : ℕ) → AreColumns one → AreColumns other → all_scopes one more ≡ all_scopes other further
    → length one.scopes ≡ length other.scopes
same_count one other more further is are same =
    elim (cases_lt (length one.scopes) (length other.scopes)) [
      | inl less ↦ absurd (not_fewer one other more further are same less)
      | inr from ↦ elim (cases_lt (length other.scopes) (length one.scopes)) [
        | inl less ↦ absurd (not_fewer other one further more is (sym same) less)
        | inr upto ↦ omega (arith, from, upto)
      ]
    ]

same_scopes : (one other : Columns) (more further : ℕ) → AreColumns one → AreColumns other → all_scopes one more ≡ all_scopes other further → one.scopes ≡ other.scopes
same_scopes one other more further is are same =
    sym (take_at one.scopes (no_documents one.documents more) (length one.scopes) refl)
    ∙ ap (λ (n : ℕ). take n (all_scopes one more)) (same_count one other more further is are same)
    ∙ ap (λ (scopes : List (List Bool)). take (length other.scopes) scopes) same
    ∙ take_at other.scopes (no_documents other.documents further) (length other.scopes) refl

-- ---- the bytes, part by part

old_head : (columns : Columns) (more : ℕ) → AreColumns columns → length columns.scopes + more < 2 ^ 32 → IsHead columns.documents (all_scopes columns more)
old_head columns more are fewer =
    let long = how_many columns more in
    let Long : List Bool → Type 0 = λ flags. length flags ≡ columns.documents in
    record {
      numbered = are.parts.head.numbered;
      some_documents = are.parts.head.some_documents;
      some = omega (arith, long, are.parts.head.some);
      fewer = omega (arith, long, fewer);
      long = All-append Long columns.scopes (no_documents columns.documents more) are.parts.head.long
          (All-replicate Long more (replicate columns.documents false) (length-replicate columns.documents false));
    }

abbrev old_behind : Columns → List ℕ
old_behind columns = flat_map old_root_text columns.roots ++ behind_roots columns

old_is : (columns : Columns) (more : ℕ) → magic ++ old_parts columns more ≡ head_text columns.documents (all_scopes columns more) ++ old_behind columns
unfolding head_text
old_is columns more =
    let sizes = u32_text columns.documents in
    let scopes = counted_text u32_text scope_text (all_scopes columns more) in
    ap (λ text. magic ++ text) (sym (append_assoc sizes scopes (old_behind columns))) ∙ sym (append_assoc magic (sizes ++ scopes) (old_behind columns))

abbrev new_with : ℕ → List (List Bool) → List Root → List ℕ → List ℕ
new_with documents scopes roots rest = head_text documents scopes ++ (roots_text roots ++ rest)

new_is : (columns : Columns) → segment_text columns ≡ new_with columns.documents columns.scopes columns.roots (behind_roots columns)
unfolding segment_text rows_part
new_is columns = ap (λ text. head_text columns.documents columns.scopes ++ text) (append_assoc (roots_text columns.roots) _ _)

old_roots : (columns : Columns) → AreColumns columns → All (λ (root : Root). root.generation ≡ 1) columns.roots → All IsOldRoot columns.roots
old_roots columns are first k d below = record { is = are.parts.roots_are.each k d below; generation = first k d below }

-- ---- one segment

same_parts : (one other : Columns) (bytes : List ℕ) (is : IsOldEncoding one bytes) (are : IsOldEncoding other bytes) → old_parts one is.more ≡ old_parts other are.more
unfolding old_text
same_parts one other bytes is are = ap (drop 4) (sym is.text ∙ are.text)

-- bytes of the older form are those of one segment
pub old_once : OneSet → OneOldRoot → (one other : Columns) (bytes : List ℕ) → IsOldEncoding one bytes → IsOldEncoding other bytes → one ≡ other
old_once one_set one_root one other bytes is are =
    let head = head_once one_set one.documents other.documents (all_scopes one is.more) (all_scopes other are.more) (old_behind one) (old_behind other)
    (old_head one is.more is.are is.fewer) (old_head other are.more are.are are.fewer)
    (sym (old_is one is.more) ∙ ap (λ (parts : List ℕ). magic ++ parts) (same_parts one other bytes is are) ∙ old_is other are.more) in
    let scopes = same_scopes one other is.more are.more is.are are.are head.1 in
    let many : length one.roots ≡ length other.roots
    = is.are.parts.rooted ∙ ap (λ (it : List (List Bool)). count_by is_marked (root_flags it)) scopes ∙ sym are.are.parts.rooted in
    let roots = many_once old_root_text IsOldRoot one_root one.roots other.roots (behind_roots one) (behind_roots other) many
    (old_roots one is.are is.first) (old_roots other are.are are.first) head.2 in
    let text : segment_text one ≡ segment_text other
    = new_is one
    ∙ ap (λ (it : ℕ). new_with it one.scopes one.roots (behind_roots one)) head.0
    ∙ ap (λ (it : List (List Bool)). new_with other.documents it one.roots (behind_roots one)) scopes
    ∙ ap (λ (it : List Root). new_with other.documents other.scopes it (behind_roots one)) roots.0
    ∙ ap (λ (it : List ℕ). new_with other.documents other.scopes other.roots it) roots.1
    ∙ sym (new_is other) in
    segment_once one_set one other is.are.parts are.are.parts text
