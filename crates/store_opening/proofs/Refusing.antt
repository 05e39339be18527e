-- Where what was read isn't good, nothing that stands there is.
use Rattle.std.proofs.Common.{◌≡◌, ℕ, ◌<◌, ◌^◌, List, [], length, refl, sym, ◌∙◌, ap, subst, arith}
use Rattle.index_core.specs.Kept.{AreBlocks, laid, made_by, most_made}
use Rattle.mapping.specs.Mapping.{Mapping}
use Rattle.segment.specs.Live.{EntryState}
use Rattle.store_text.specs.declared.record.RecordText.{RecordText}
use Rattle.store_opening.specs.Entries.{AreNumbered, IsEntryOf, IsHead, IsSaid, StandsFor, StandsSaid}
use Rattle.store_opening.specs.Read.{HasRecord}
use Rattle.store_opening.specs.Segments.{AreOnce}
use Rattle.store_opening.proofs.Numbered.{RecordOnce, entries_same, made_few, mapping_same, record_same}

pub no_head : RecordOnce → (limit : ℕ) (file : List ℕ) (at len : ℕ) (own : RecordText) → HasRecord at len own file → ((m : Mapping) → IsHead limit at len own m → ⊥)
    → (it : RecordText) (m : Mapping) → IsHead limit at len it m → HasRecord at len it file → ⊥
no_head once limit file at len own is none it m head has =
    none m (subst (λ (x : RecordText). IsHead limit at len x m) (record_same once file at len it own has is) head)

-- the record and the mapping are those that were read
record IsSame (own it : RecordText) (m n : Mapping) : Type 0 where
  record_is : it ≡ own
  mapping_is : n ≡ m

same_of : RecordOnce → (limit : ℕ) (file : List ℕ) (at len : ℕ) (own it : RecordText) (m n : Mapping) → HasRecord at len own file → IsHead limit at len own m → HasRecord at len it file
    → IsHead limit at len it n → IsSame own it m n
same_of once limit file at len own it m n is head has other =
    let same : it ≡ own = record_same once file at len it own has is in
    record {
      record_is = same;
      mapping_is = mapping_same own.bodies own.dynamic n m (subst (λ (x : RecordText). IsHead limit at len x n) same other).mapping head.mapping;
    }

pub no_entries : RecordOnce → (limit : ℕ) (file : List ℕ) (at len : ℕ) (own : RecordText) (m : Mapping) → HasRecord at len own file → IsHead limit at len own m
    → ((view : List EntryState) → AreNumbered (IsEntryOf m own.old) 0 own.rows view → AreNumbered (StandsFor own.old (length m.scopes) file) 0 own.rows view → ⊥)
    → (it : RecordText) (n : Mapping) (view : List EntryState) → IsSaid limit at len it n view → StandsSaid at len it n view file → ⊥
no_entries once limit file at len own m is head none it n view said stands =
    let same = same_of once limit file at len own it m n is head stands.record_stands said.head in
    none view
    (subst (λ (x : RecordText). AreNumbered (IsEntryOf m x.old) 0 x.rows view) same.record_is
    (subst (λ (x : Mapping). AreNumbered (IsEntryOf x it.old) 0 it.rows view) same.mapping_is said.entries))
    (subst (λ (x : RecordText). AreNumbered (StandsFor x.old (length m.scopes) file) 0 x.rows view) same.record_is
    (subst (λ (x : Mapping). AreNumbered (StandsFor it.old (length x.scopes) file) 0 it.rows view) same.mapping_is stands.segments))

few_made : (n : ℕ) → n < 2 ^ 32 → n < most_made
few_made n few = omega (arith, few)

-- so many segments have an id
pub made_below : (limit at len : ℕ) (own : RecordText) (m : Mapping) (view : List EntryState) → IsHead limit at len own m → AreNumbered (IsEntryOf m own.old) 0 own.rows view → made_by view < most_made
made_below limit at len own m view head are = few_made (made_by view) (omega (arith, made_few m own.old own.rows view are, head.numbers.few))

pub no_blocks : RecordOnce → AreOnce → (limit : ℕ) (file : List ℕ) (at len : ℕ) (own : RecordText) (m : Mapping) (mine : List EntryState) → HasRecord at len own file → IsHead limit at len own m
    → AreNumbered (IsEntryOf m own.old) 0 own.rows mine → AreNumbered (StandsFor own.old (length m.scopes) file) 0 own.rows mine
    → (AreBlocks (laid mine [] (made_by mine)) own.next → ⊥)
    → (it : RecordText) (n : Mapping) (view : List EntryState) → IsSaid limit at len it n view → StandsSaid at len it n view file → ⊥
no_blocks once one limit file at len own m mine is head are stand none it n view said stands =
    let same = same_of once limit file at len own it m n is head stands.record_stands said.head in
    let theirs : AreNumbered (IsEntryOf m own.old) 0 own.rows view
    = subst (λ (x : RecordText). AreNumbered (IsEntryOf m x.old) 0 x.rows view) same.record_is
    (subst (λ (x : Mapping). AreNumbered (IsEntryOf x it.old) 0 it.rows view) same.mapping_is said.entries) in
    let there : AreNumbered (StandsFor own.old (length m.scopes) file) 0 own.rows view
    = subst (λ (x : RecordText). AreNumbered (StandsFor x.old (length m.scopes) file) 0 x.rows view) same.record_is
    (subst (λ (x : Mapping). AreNumbered (StandsFor it.old (length x.scopes) file) 0 it.rows view) same.mapping_is stands.segments) in
    let views : view ≡ mine = entries_same one m own.old file 0 own.rows view mine theirs are there stand in
    none
    (subst (λ (es : List EntryState). AreBlocks (laid es [] (made_by es)) own.next) views
    (subst (λ (x : RecordText). AreBlocks (laid view [] (made_by view)) x.next) same.record_is said.blocks))

pub ruleset refused = (no_head, no_entries, no_blocks, made_below)
