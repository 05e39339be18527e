-- Roots without a mapping generation, read from left to right, and that no bytes begin with two of them.
use Rattle.std.proofs.Common.{◌≡◌, ℕ, ◌+◌, ◌-◌, ◌<◌, ◌≤◌, ◌^◌, List, ◌++◌, length, take, drop, Option, Some, None, refl, sym, ap, ◌∙◌, append_assoc, arith}
use Rattle.std.proofs.lemmas.List.{take_at, length-append}
use Rattle.std.proofs.lemmas.Option.{same_Some, none-some}
use Rattle.part_text.specs.Text.{u32_text, u64_text, string_text}
use Rattle.part_text.specs.Reading.{Reader, u64_at, string_at, both_at}
use Rattle.part_text.specs.Reads.{Reads, IsBytes, IsBytes-rest, both_text, u64_reads, string_reads, both_reads, reads_once}
use Rattle.stored_sources.specs.declared.root.Join.{Join}
use Rattle.stored_sources.specs.declared.root.Root.{Root}
use Rattle.stored_sources.specs.Text.{join_text, root_text, old_root_text}
use Rattle.stored_sources.specs.Stands.{IsJoin, IsRoot, IsOldRoot}
use Rattle.stored_sources.specs.Reading.{join_at, join_reads}

-- ---- readers

-- an id and a number
abbrev pub Front : Type 0
Front = List ℕ × ℕ

abbrev pub front_text : Front → List ℕ
front_text = both_text string_text u64_text

unfoldable pub front_at : Reader Front
front_at = both_at (λ (_ : Unit {0}). string_at) u64_at tt

-- a source and a join value
abbrev pub End : Type 0
End = List ℕ × Join

abbrev pub end_text : End → List ℕ
end_text = both_text string_text join_text

unfoldable pub end_at : Reader End
end_at = both_at (λ (_ : Unit {0}). string_at) join_at tt

-- ---- laws

abbrev MayFront : Front → Type 0
MayFront front = (length front.0 < 2 ^ 32) × (front.1 < 2 ^ 64)

abbrev MayEnd : End → Type 0
MayEnd end = (length end.0 < 2 ^ 32) × IsJoin end.1

front_reads : Reads {B = Unit {0}} front_text (λ _ front. MayFront front) (λ _. front_at)
unfolding front_at
front_reads = both_reads {B = Unit {0}} string_text u64_text (λ _ text. length text < 2 ^ 32) (λ _ number. number < 2 ^ 64) (λ _. string_at) u64_at string_reads u64_reads

end_reads : Reads {B = Unit {0}} end_text (λ _ end. MayEnd end) (λ _. end_at)
unfolding end_at
end_reads = both_reads {B = Unit {0}} string_text join_text (λ _ text. length text < 2 ^ 32) (λ _ join. IsJoin join) (λ _. string_at) join_at string_reads join_reads

-- a root is its front, its generation and its end
abbrev root_with : Front → ℕ → End → Root
root_with front generation end = record { id = front.0; number = front.1; generation = generation; source = end.0; join = end.1 }

old_parts : (front : Front) (end : End) (rest : List ℕ) → old_root_text (root_with front 1 end) ++ rest ≡ front_text front ++ (end_text end ++ rest)
old_parts front end rest =
    ap (λ text. text ++ rest) (sym (append_assoc (string_text front.0) (u64_text front.1) (end_text end))) ∙ append_assoc (front_text front) (end_text end) rest

new_parts : (front : Front) (end : End) → front_text front ++ (u32_text 1 ++ end_text end) ≡ root_text (root_with front 1 end)
new_parts front end = append_assoc (string_text front.0) (u64_text front.1) (u32_text 1 ++ end_text end)

-- the parts of an old root
root_is : (root : Root) → IsOldRoot root → root ≡ root_with (root.id, root.number) 1 (root.source, root.join)
root_is root old = ap (λ (generation : ℕ). root_with (root.id, root.number) generation (root.source, root.join)) old.generation

root_parts : (root : Root) (rest : List ℕ) → old_root_text root ++ rest ≡ front_text (root.id, root.number) ++ (end_text (root.source, root.join) ++ rest)
root_parts root rest = old_parts (root.id, root.number) (root.source, root.join) rest

pub old_root_once : (one other : Root) (rest more : List ℕ) → IsOldRoot one → IsOldRoot other → old_root_text one ++ rest ≡ old_root_text other ++ more → (one ≡ other) × (rest ≡ more)
old_root_once one other rest more is are same =
    let first = reads_once {B = Unit {0}} front_text (λ _ front. MayFront front) (λ _. front_at) front_reads tt (one.id, one.number) (other.id, other.number) (end_text (one.source, one.join) ++ rest) (end_text (other.source, other.join) ++ more)
    (is.is.id, is.is.number) (are.is.id, are.is.number) (sym (root_parts one rest) ∙ same ∙ root_parts other more) in
    let second = reads_once {B = Unit {0}} end_text (λ _ end. MayEnd end) (λ _. end_at) end_reads tt (one.source, one.join) (other.source, other.join) rest more (is.is.source, is.is.join) (are.is.source, are.is.join) first.1 in
    (root_is one is ∙ ap (λ (front : Front). root_with front 1 (one.source, one.join)) first.0 ∙ ap (λ (end : End). root_with (other.id, other.number) 1 end) second.0 ∙ sym (root_is other are), second.1)

-- ---- a root that is read and written again

-- an old root at the front of bytes: where its end begins, what stands behind it, and its text with the generation 1
pub record IsOldTaken (bytes behind rest : List ℕ) : Type 0 where
  pub root : Root
  pub is : IsOldRoot root
  pub parts : bytes ≡ old_root_text root ++ rest
  pub before : length behind ≤ length bytes
  pub after : length rest ≤ length behind
  pub renewed : take (length bytes - length behind) bytes ++ (u32_text 1 ++ take (length behind - length rest) behind) ≡ root_text root

-- the text in front of what is left
front_of : (bytes text rest : List ℕ) → bytes ≡ text ++ rest → (length rest ≤ length bytes) × (take (length bytes - length rest) bytes ≡ text)
front_of bytes text rest parts =
    let long : length bytes ≡ length text + length rest = ap length parts ∙ length-append text rest in
    let own : length bytes - length rest ≡ length text = omega (arith, long) in
    (omega (arith, long), ap (λ n. take n bytes) own ∙ ap (take (length text)) parts ∙ take_at text rest (length text) refl)

pub old_taken : (bytes behind rest : List ℕ) (front : Front) (end : End) → IsBytes bytes → front_at bytes ≡ Some (front, behind) → end_at behind ≡ Some (end, rest) → IsOldTaken bytes behind rest
old_taken bytes behind rest front end fits first second =
    let one = front_reads.takes tt bytes front behind fits first in
    let two = end_reads.takes tt behind end rest (IsBytes-rest bytes (front_text front) behind fits one.1) second in
    let early = front_of bytes (front_text front) behind one.1 in
    let late = front_of behind (end_text end) rest two.1 in
    record {
      root = root_with front 1 end;
      is = record { is = record { id = one.0.0; number = one.0.1; generation = omega arith; source = two.0.0; join = two.0.1 }; generation = refl };
      parts = one.1 ∙ ap (λ text. front_text front ++ text) two.1 ∙ sym (old_parts front end rest);
      before = early.0;
      after = late.0;
      renewed = ap (λ text. text ++ (u32_text 1 ++ take (length behind - length rest) behind)) early.1 ∙ ap (λ text. front_text front ++ (u32_text 1 ++ text)) late.1 ∙ new_parts front end;
    }

pub no_front : (bytes : List ℕ) → front_at bytes ≡ None → (root : Root) (rest : List ℕ) → IsOldRoot root → bytes ≡ old_root_text root ++ rest → ⊥
no_front bytes none root rest old parts =
    let behind = end_text (root.source, root.join) ++ rest in
    none-some ((root.id, root.number), behind) (sym none ∙ ap front_at (parts ∙ root_parts root rest) ∙ front_reads.again tt (root.id, root.number) behind (old.is.id, old.is.number))

pub no_end : (bytes behind : List ℕ) (front : Front) → front_at bytes ≡ Some (front, behind) → end_at behind ≡ None → (root : Root) (rest : List ℕ) → IsOldRoot root → bytes ≡ old_root_text root ++ rest → ⊥
no_end bytes behind front first none root rest old parts =
    let own = end_text (root.source, root.join) ++ rest in
    let read : Some (front, behind) ≡ Some ((root.id, root.number), own) = sym first ∙ ap front_at (parts ∙ root_parts root rest) ∙ front_reads.again tt (root.id, root.number) own (old.is.id, old.is.number) in
    let same : behind ≡ own = ap (λ (p : Front × List ℕ). p.1) (same_Some (front, behind) ((root.id, root.number), own) read) in
    none-some ((root.source, root.join), rest) (sym none ∙ ap end_at same ∙ end_reads.again tt (root.source, root.join) rest (old.is.source, old.is.join))

-- the pieces that were put
pub renewed_put : (bytes behind rest old one two all first last : List ℕ) (taken : IsOldTaken bytes behind rest) → first ≡ take (length bytes - length behind) bytes → last ≡ take (length behind - length rest) behind → one ≡ old ++ first → two ≡ one ++ u32_text 1 → all ≡ two ++ last → all ≡ old ++ root_text taken.root
renewed_put bytes behind rest old one two all first last taken first_is last_is put then finally =
    finally
    ∙ ap (λ front. front ++ last) (then ∙ ap (λ front. front ++ u32_text 1) put)
    ∙ append_assoc (old ++ first) (u32_text 1) last
    ∙ append_assoc old first (u32_text 1 ++ last)
    ∙ ap (λ text. old ++ (text ++ (u32_text 1 ++ last))) first_is
    ∙ ap (λ text. old ++ (take (length bytes - length behind) bytes ++ (u32_text 1 ++ text))) last_is
    ∙ ap (λ text. old ++ text) taken.renewed
