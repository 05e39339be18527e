-- The terms of parts put together: which rows can be written, and what they are.
use denote.Ref.{Bor}
use Rattle.std.proofs.Common.{◌≡◌, ℕ, zero, suc, ◌<◌, ◌^◌, List, [], ◌∷◌, length, map, slice_get, Some, refl, sym, ap, subst, ◌∙◌, arith, Vec}
use Rattle.std.specs.List.{All, AllByRecursion, filter, flat_map}
use Rattle.std.specs.List.Sorted.{IsStrictlySortedBy}
use Rattle.std.specs.declared.cmp.Ordering.{Ordering}
use Rattle.std.proofs.lemmas.List.{length-map}
use Rattle.std.proofs.lemmas.List.Elements.{All-from_recursion, All-head, All-tail, recursion_from_All}
use Rattle.std.proofs.lemmas.Option.{get_or_from_slice_get, slice_get_within}
use Rattle.segment.specs.Agree.{AreColumns}
use Rattle.segment.specs.Flat.{has_some}
use Rattle.segment_builder.specs.Groups.{in_groups, groups_seen, keys, of_key, AreGroups}
use Rattle.segment_builder.specs.Regrouped.{regrouped_seen}
use Rattle.segment_builder.specs.Terms.{row_group}
use Rattle.segment_parts.specs.Lists.{terms_of}
use Rattle.term_table.specs.Laws.{term_cmp_total}
use Rattle.term_table.specs.Part.{IsRow}
use Rattle.term_table.specs.Terms.{term_cmp}
use Rattle.term_table.specs.declared.rows.TermRow.{TermRow}
use Rattle.segment_merge.specs.Merged.{IsGathered}
use Rattle.segment_merge.specs.Numbering.{PartState, live_in}
use Rattle.segment_merge.specs.TermRefs.{CanPut, IsPlaced, TermPlace, all_terms, blank_ordinals, group_lent, key_lent, live_postings, live_rows, place_lent, ref_lent, rooms_of}
use Rattle.segment_merge.specs.declared.terms.TermAt.{TermAt}
use Rattle.segment_merge.proofs.Few.{AreUp, Rise, all_few, rise_from}
use Rattle.segment_merge.proofs.Gathering.{are_gathered, in_parts}
use Rattle.segment_merge.proofs.Noted.{blank_rooms}
use Rattle.segment_merge.proofs.Refs.{AreMembers, Group, IsRef, Ref, all_are, all_stand, groups_of_refs, kept_of, rows_are_groups, whole_group}

-- ---- what is known of a part's terms

abbrev Agree : PartState → Type 0
Agree part = AreColumns part.entry.columns

abbrev groups_in : PartState → List ((ℕ × List ℕ) × List (ℕ × List ℕ))
groups_in part = map row_group part.entry.columns.terms

keys_rows : (rows : List TermRow) → keys (map row_group rows) ≡ map (λ (row : TermRow). row.term) rows
keys_rows [] = refl
keys_rows (row ∷ rows) = ap (λ (terms : List (ℕ × List ℕ)). row.term ∷ terms) (keys_rows rows)

rise_rows : (rows : List TermRow) → All IsRow rows → AllByRecursion (λ (group : (ℕ × List ℕ) × List (ℕ × List ℕ)). Rise 0 group.1) (map row_group rows)
rise_rows [] are = tt
rise_rows (row ∷ rows) are = (
  rise_from 0 row.postings (λ _. omega arith) (All-head IsRow row rows are).postings_are.documents_are.ascending,
  rise_rows rows (All-tail IsRow row rows are),
)

part_up : (part : PartState) → Agree part → AreUp term_cmp term_cmp_total (groups_in part)
part_up part agree = (
  subst (IsStrictlySortedBy term_cmp) (sym (keys_rows part.entry.columns.terms)) agree.parts.terms_are.ascending,
  rise_rows part.entry.columns.terms agree.parts.terms_are.rows_are,
)

all_up : (parts : List PartState) → AllByRecursion Agree parts → AllByRecursion (λ (part : PartState). AreUp term_cmp term_cmp_total (groups_in part)) parts
all_up [] all = tt
all_up (part ∷ parts) all = (part_up part all.0, all_up parts all.1)

term_short : (rows : List TermRow) (at : ℕ) (term : ℕ × List ℕ) → All IsRow rows → slice_get (map (λ (row : TermRow). row.term) rows) at ≡ Some term → length term.1 < 2 ^ 32
term_short [] at term are is = absurd (cc (is))
term_short (row ∷ rows) zero term are is =
    let same : row.term ≡ term = cc (is) in
    subst (λ (t : ℕ × List ℕ). length t.1 < 2 ^ 32) same (All-head IsRow row rows are).short
term_short (row ∷ rows) (suc at) term are is = term_short rows at term (All-tail IsRow row rows are) is

-- ---- one group

part_agrees : (parts : List PartState) (place : ℕ) (part : PartState) → All Agree parts → slice_get parts place ≡ Some part → Agree part
part_agrees parts place part all is = subst Agree (get_or_from_slice_get parts place part part is) (all place part (slice_get_within parts place part is))

ref_short : (parts : List PartState) (ref : Ref) → All Agree parts → IsRef parts ref → length ref.0.1 < 2 ^ 32
ref_short parts ref all is =
    term_short ref.1.part.entry.columns.terms ref.1.ordinal ref.0 (part_agrees parts ref.1.place ref.1.part all is.part).parts.terms_are.rows_are is.term

ref_placed : (parts : List PartState) (ref : Ref) → IsRef parts ref → IsPlaced (rooms_of (blank_ordinals parts)) ref.1
ref_placed parts ref is =
    let rows : List TermRow = ref.1.part.entry.columns.terms in
    let inside : ref.1.ordinal < length (terms_of ref.1.part.entry.columns) = slice_get_within (terms_of ref.1.part.entry.columns) ref.1.ordinal ref.0 is.term in
    record {
      there = omega (arith, inside, length-map rows (λ (row : TermRow). row.term), length-map rows (λ (row : TermRow). row.postings));
      room = omega (arith, inside, blank_rooms parts ref.1.place ref.1.part is.part);
    }

members_placed : (parts : List PartState) (key : ℕ × List ℕ) (places : List TermPlace) → AllByRecursion (λ (place : TermPlace). IsRef parts (key, place)) places → AllByRecursion (IsPlaced (rooms_of (blank_ordinals parts))) places
members_placed parts key [] are = tt
members_placed parts key (place ∷ places) are = (ref_placed parts (key, place) are.0, members_placed parts key places are.1)

members_short : (parts : List PartState) (key : ℕ × List ℕ) (places : List TermPlace) → All Agree parts → AllByRecursion (λ (place : TermPlace). IsRef parts (key, place)) places → 0 < length places → length key.1 < 2 ^ 32
members_short parts key [] all are some = absurd (omega (arith, some))
members_short parts key (place ∷ places) all are some = ref_short parts (key, place) all are.0

group_few : (parts : List PartState) (group : Group) → All Agree parts → live_in parts < 2 ^ 32 → group.1 ≡ of_key term_cmp group.0 (all_terms 0 parts) → length (flat_map live_postings group.1) < 2 ^ 32
group_few parts group all few gather =
    let refs : List Ref = all_terms 0 parts in
    let same : in_groups term_cmp group.0 (flat_map kept_of parts) ≡ flat_map live_postings group.1 =
    ap (in_groups term_cmp group.0) (sym (all_stand 0 parts)) ∙ in_parts term_cmp term_cmp_total live_postings group.0 refs ∙ ap (flat_map live_postings) (sym gather) in
    omega (
      arith,
      few,
      ap (λ (ps : List (ℕ × List ℕ)). length ps) same,
      all_few term_cmp term_cmp_total groups_in group.0 parts (all_up parts (recursion_from_All Agree parts all)),
    )

-- ---- all groups

can_put_each : (parts : List PartState) (groups : List Group) → All Agree parts → live_in parts < 2 ^ 32 → AllByRecursion (AreMembers parts) groups → AllByRecursion (λ (group : Group). group.1 ≡ of_key term_cmp group.0 (all_terms 0 parts)) groups
    → AllByRecursion (λ (group : Group). 0 < length group.1) groups → AllByRecursion (CanPut (rooms_of (blank_ordinals parts))) groups
can_put_each parts [] all few members gather some = tt
can_put_each parts (group ∷ groups) all few members gather some = (
  record {
    short = members_short parts group.0 group.1 all members.0 some.0;
    few = group_few parts group all few gather.0;
    placed = All-from_recursion (IsPlaced (rooms_of (blank_ordinals parts))) group.1 (members_placed parts group.0 group.1 members.0);
  },
  can_put_each parts groups all few members.1 gather.1 some.1,
)

pub can_put : (parts : List PartState) (groups : List Group) → All Agree parts → live_in parts < 2 ^ 32 → AreGroups term_cmp (all_terms 0 parts) groups → All (CanPut (rooms_of (blank_ordinals parts))) groups
can_put parts groups all few are =
    All-from_recursion (CanPut (rooms_of (blank_ordinals parts))) groups
    (can_put_each parts groups all few (groups_of_refs parts (all_terms 0 parts) groups (all_are parts 0 parts refl) are.gather) are.gather are.ordered.some)

-- groups as they are lent
pub lent_groups : {A : Type 0} (cmp : ℕ × Bor (List ℕ) → ℕ × Bor (List ℕ) → Ordering) → ((a b : ℕ × Bor (List ℕ)) → cmp a b ≡ term_cmp (key_lent a) (key_lent b)) → (parts : List PartState) (refs : List ((ℕ × Bor (List ℕ)) × TermAt)) (groups : List ((ℕ × Bor (List ℕ)) × Vec TermAt A))
    → map ref_lent refs ≡ all_terms 0 parts → AreGroups cmp refs (groups_seen groups) → AreGroups term_cmp (all_terms 0 parts) (map group_lent groups)
lent_groups {A} cmp same parts refs groups is are =
    subst (λ (entries : List Ref). AreGroups term_cmp entries (map group_lent groups)) is
    (regrouped_seen cmp term_cmp key_lent place_lent same refs groups are)

-- the rows are what the parts have
pub rows_gathered : (parts : List PartState) (groups : List Group) → AreGroups term_cmp (all_terms 0 parts) groups → IsGathered term_cmp (flat_map kept_of parts) (map row_group (live_rows groups))
rows_gathered parts groups are =
    subst (λ (rows : List ((ℕ × List ℕ) × List (ℕ × List ℕ))). IsGathered term_cmp (flat_map kept_of parts) rows) (sym (rows_are_groups groups))
    (subst (λ (own : List ((ℕ × List ℕ) × List (ℕ × List ℕ))). IsGathered term_cmp own (filter has_some (map whole_group groups))) (all_stand 0 parts)
    (are_gathered term_cmp term_cmp_total live_postings (all_terms 0 parts) groups are))
