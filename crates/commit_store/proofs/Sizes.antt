-- Numbers that a commit is made with: how far its extents reach, and how many roots are dead.
use Rattle.std.proofs.Common.{◌≡◌, ℕ, ◌+◌, ◌-◌, ◌≤◌, max, cond, Bool, true, false, not, List, [], ◌∷◌, ◌++◌, length, count_by, refl, arith}
use Rattle.std.proofs.lemmas.List.Sums.{sum_by-cons}
use Rattle.block_bits.specs.Flags.{is_marked}
use Rattle.extent_pool.specs.declared.extent.Extent.{Extent}
use Rattle.segment_parts.specs.Text.{magic, head_text, segment_text}
use Rattle.segment_parts.specs.declared.columns.Columns.{Columns}
use Rattle.store_text.specs.Header.{header_size}
use Rattle.commit_store.specs.Preparing.{end_named}

pub named_behind : (extents : List Extent) → header_size ≤ end_named extents
named_behind [] = omega arith
named_behind (extent ∷ extents) = let more = named_behind extents in omega (arith, more)

one_more : {A : Type 0} (test : A → Bool) (first : A) (others : List A) → count_by test (first ∷ others) ≡ cond (test first) 1 0 + count_by test others
one_more test first others = sum_by-cons (λ it. cond (test it) 1 0) first others

counted : (marks : List Bool) → count_by is_marked marks + count_by not marks ≡ length marks
counted [] = refl
counted (true ∷ marks) = omega (arith, counted marks, one_more is_marked true marks, one_more not true marks)
counted (false ∷ marks) = omega (arith, counted marks, one_more is_marked false marks, one_more not false marks)

pub dead_are : (marks : List Bool) → length marks - count_by is_marked marks ≡ count_by not marks
dead_are marks = omega (arith, counted marks)

pub text_some : (columns : Columns) → 1 ≤ length (segment_text columns)
unfolding segment_text head_text
text_some columns = omega arith
