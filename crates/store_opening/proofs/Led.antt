-- What a header leads to: the commit that was read there, or none.
use Rattle.std.proofs.Common.{◌≡◌, ℕ, ◌+◌, ◌<◌, ◌≤◌, ◌^◌, max, inl, inr, Bool, true, false, not, List, [], ◌∷◌, ◌++◌, length, map, take, drop, Option, None, Some, refl, sym, ◌∙◌, ap, subst, arith}
use Rattle.std.specs.Int.{from_le_bytes, w64}
use Rattle.std.specs.List.{AllByRecursion}
use Rattle.std.proofs.lemmas.Bool.{false≢true}
use Rattle.std.proofs.lemmas.List.{take_at, drop_at}
use Rattle.std.proofs.lemmas.Nat.{from_le_bytes-to_le_bytes_8}
use Rattle.byte_fields.specs.Fields.{spelled_u64}
use Rattle.commit_images.specs.Commits.{Counts, Finds, IsBlank, Found as Shows}
use Rattle.commit_images.specs.Known.{slot_generation}
use Rattle.commit_images.specs.Standing.{gate_stands}
use Rattle.index_core.proofs.Jobs.{each as by_recursion}
use Rattle.commit_store.specs.Saying.{StoreCommit, Found, IsGood, entries_of, extent_of, last_generation, mapping_said, record_of}
use Rattle.extent_pool.specs.Extents.{end_of, rounded}
use Rattle.extent_pool.specs.declared.extent.Extent.{Extent}
use Rattle.mapping.specs.Mapping.{Mapping}
use Rattle.segment.specs.Live.{EntryState}
use Rattle.store_text.specs.Header.{header_size, magic, other, slot_at, slot, is_open, generation_in}
use Rattle.store_text.specs.Pieces.{Piece, Stands}
use Rattle.store_text.specs.Read.{IsHeader, IsSlot}
use Rattle.store_text.specs.declared.header.Side.{Side}
use Rattle.store_text.specs.declared.header.Side.TheVariants.{A, B}
use Rattle.store_text.specs.declared.header.Slot.{Slot}
use Rattle.store_text.specs.declared.header.Header.{Header}
use Rattle.store_text.specs.declared.record.RecordText.{RecordText}
use Rattle.store_opening.specs.Beginning.{AreClosed, HasHeader, IsShort}
use Rattle.store_opening.specs.Entries.{IsSaid, StandsSaid}
use Rattle.store_opening.proofs.Said.{Reads, reads, said_of, stands_of}
use Rattle.store_opening.proofs.Sourced.{BlockLaws}

-- ---- one slot counts

not_both : (file : List ℕ) → Counts A (generation_in A file) file → Counts B (generation_in B file) file → ⊥
not_both file a b =
    let first : generation_in B file ≤ generation_in A file = a.ahead b.opened in
    let then : generation_in A file < generation_in B file = b.ahead a.opened in
    omega (arith, first, then)

same_side : (file : List ℕ) (one another : Side) → Counts one (generation_in one file) file → Counts another (generation_in another file) file → one ≡ another
same_side file A A own its = refl
same_side file A B own its = absurd (not_both file own its)
same_side file B A own its = absurd (not_both file its own)
same_side file B B own its = refl

-- ---- numbers of a slot

first_number : (n m : ℕ) (rest more : List ℕ) → n < 2 ^ 64 → m < 2 ^ 64 → spelled_u64 n ++ rest ≡ spelled_u64 m ++ more → n ≡ m
first_number n m rest more n-fits m-fits same =
    sym (from_le_bytes-to_le_bytes_8 n n-fits)
    ∙ ap (from_le_bytes w64)
    (sym (take_at (spelled_u64 n) rest 8 refl) ∙ ap (take 8) same ∙ take_at (spelled_u64 m) more 8 refl)
    ∙ from_le_bytes-to_le_bytes_8 m m-fits

behind_number : (n m : ℕ) (rest more : List ℕ) → spelled_u64 n ++ rest ≡ spelled_u64 m ++ more → rest ≡ more
behind_number n m rest more same = sym (drop_at (spelled_u64 n) rest 8 refl) ∙ ap (drop 8) same ∙ drop_at (spelled_u64 m) more 8 refl

only_number : (n m : ℕ) → n < 2 ^ 64 → m < 2 ^ 64 → spelled_u64 n ≡ spelled_u64 m → n ≡ m
only_number n m n-fits m-fits same = sym (from_le_bytes-to_le_bytes_8 n n-fits) ∙ (ap (from_le_bytes w64) same ∙ from_le_bytes-to_le_bytes_8 m m-fits)

record SameSlot (generation at len : ℕ) (c : StoreCommit) : Type 0 where
  generation_is : c.generation ≡ generation
  at_is : c.body.at ≡ at
  len_is : length c.body.bytes ≡ len

rounded_up : (len : ℕ) → len ≤ rounded len
rounded_up len = omega arith

pub body_ends : (limit : ℕ) (c : StoreCommit) → limit ≤ 2 ^ 38 → IsGood limit c → c.body.at + length c.body.bytes < 2 ^ 64
body_ends limit c few good =
    let within : end_of (extent_of c.body) ≤ limit
    = (by_recursion (λ (extent : Extent). end_of extent ≤ limit) (map extent_of (c.body ∷ c.segments)) good.places.within).0 in
    let up = rounded_up (length c.body.bytes) in
    omega (arith, within, up, few)

pub few_generations : (generation : ℕ) → generation ≤ last_generation → generation < 2 ^ 64
few_generations generation last = omega (arith, last)

same_slot : (limit : ℕ) (file : List ℕ) (side : Side) (own : Slot) (c : StoreCommit) → limit ≤ 2 ^ 38 → own.generation < 2 ^ 64 → own.at < 2 ^ 64 → own.len < 2 ^ 64 → IsGood limit c
    → c.side ≡ side → IsSlot side own file → Stands file (slot c.side c.generation c.body.at (length c.body.bytes)) → SameSlot own.generation own.at own.len c
same_slot limit file side own c few generation-fits at-fits len-fits good same is stands =
    let ends = body_ends limit c few good in
    let slots : (slot c.side c.generation c.body.at (length c.body.bytes)).bytes ≡ (slot side own.generation own.at own.len).bytes
    = sym stands ∙ (ap (λ (it : Side). take 24 (drop (slot_at it) file)) same ∙ is.stands) in
    let behind : spelled_u64 c.body.at ++ spelled_u64 (length c.body.bytes) ≡ spelled_u64 own.at ++ spelled_u64 own.len
    = behind_number c.generation own.generation (spelled_u64 c.body.at ++ spelled_u64 (length c.body.bytes)) (spelled_u64 own.at ++ spelled_u64 own.len) slots in
    record {
      generation_is = first_number c.generation own.generation (spelled_u64 c.body.at ++ spelled_u64 (length c.body.bytes)) (spelled_u64 own.at ++ spelled_u64 own.len)
          (few_generations c.generation good.last) generation-fits slots;
      at_is = first_number c.body.at own.at (spelled_u64 (length c.body.bytes)) (spelled_u64 own.len) (omega (arith, ends)) at-fits behind;
      len_is = only_number (length c.body.bytes) own.len (omega (arith, ends)) len-fits
          (behind_number c.body.at own.at (spelled_u64 (length c.body.bytes)) (spelled_u64 own.len) behind);
    }

-- ---- no commit, and none that could be read

nothing_stands : (file : List ℕ) → file ≡ [] → Stands file magic → ⊥
nothing_stands file none stands = omega (arith, ap length (sym (subst (λ (it : List ℕ). Stands it magic) none stands)))

pub blank_of : (file : List ℕ) (header : Header) → HasHeader header file → AreClosed file → IsBlank file
blank_of file header has shut = record { long = has.long; stands = has.magic_stands; a_closed = shut.a; b_closed = shut.b }

shut_at : (side : Side) (file : List ℕ) → IsBlank file → is_open side file ≡ true → ⊥
shut_at A file blank opened = false≢true (sym blank.a_closed ∙ opened)
shut_at B file blank opened = false≢true (sym blank.b_closed ∙ opened)

pub short_finds : (limit : ℕ) (file : List ℕ) (found : Option StoreCommit) → IsShort file → Found limit file found → ⊥
short_finds limit file None short (inl none) = nothing_stands file none short.magic_stands
short_finds limit file None short (inr blank) = omega (arith, blank.long, short.short)
short_finds limit file (Some c) short finds = omega (arith, finds.long, short.short)

-- a slot counts, and no commit can be read where it leads
pub none_led : (limit : ℕ) (file : List ℕ) (header : Header) (side : Side) (own : Slot) → BlockLaws → limit ≤ 2 ^ 38 → own.generation < 2 ^ 64 → own.at < 2 ^ 64 → own.len < 2 ^ 64
    → HasHeader header file → Counts side (generation_in side file) file → IsSlot side own file
    → (1 ≤ own.generation → own.generation ≤ last_generation → (it : RecordText) (m : Mapping) (view : List EntryState) → IsSaid limit own.at own.len it m view → StandsSaid own.at own.len it m view file → ⊥)
    → (found : Option StoreCommit) → Found limit file found → ⊥
none_led limit file header side own laws few generation-fits at-fits len-fits has counts is none None (inl empty) = omega (arith, ap length empty, has.long)
none_led limit file header side own laws few generation-fits at-fits len-fits has counts is none None (inr blank) = shut_at side file blank counts.opened
none_led limit file header side own laws few generation-fits at-fits len-fits has counts is none (Some c) finds =
    let read : generation_in c.side file ≡ c.generation
    = slot_generation c.side c.generation c.body.at (length c.body.bytes) file (few_generations c.generation finds.good.last) finds.stand.1.1.0 in
    let same : c.side ≡ side = same_side file c.side side (subst (λ (n : ℕ). Counts c.side n file) (sym read) finds.counts) counts in
    let there = same_slot limit file side own c few generation-fits at-fits len-fits finds.good same is finds.stand.1.1.0 in
    none (subst (λ (n : ℕ). 1 ≤ n) there.generation_is finds.good.first) (subst (λ (n : ℕ). n ≤ last_generation) there.generation_is finds.good.last)
    (record_of c.says) (mapping_said c.says) (entries_of c)
    (subst (λ (n : ℕ). IsSaid limit own.at n (record_of c.says) (mapping_said c.says) (entries_of c)) there.len_is
    (subst (λ (n : ℕ). IsSaid limit n (length c.body.bytes) (record_of c.says) (mapping_said c.says) (entries_of c)) there.at_is (said_of laws limit c finds.good)))
    (subst (λ (n : ℕ). StandsSaid own.at n (record_of c.says) (mapping_said c.says) (entries_of c) file) there.len_is
    (subst (λ (n : ℕ). StandsSaid n (length c.body.bytes) (record_of c.says) (mapping_said c.says) (entries_of c) file) there.at_is (stands_of limit file c finds)))

-- a slot counts, and the commit that it leads to was read
pub led : (limit : ℕ) (file : List ℕ) (header : Header) (side : Side) (own : Slot) (it : RecordText) (m : Mapping) (view : List EntryState) → BlockLaws
    → HasHeader header file → Counts side (generation_in side file) file → IsSlot side own file → 1 ≤ own.generation → own.generation ≤ last_generation
    → IsSaid limit own.at own.len it m view → StandsSaid own.at own.len it m view file → Reads limit side own.generation own.at own.len it m view file
led limit file header side own it m view laws has counts is first last said stands =
    reads laws limit side own.generation own.at own.len it m view file said stands first last has.long has.magic_stands (gate_stands side file has.long counts.opened) is.stands
    (subst (λ (n : ℕ). Counts side n file) (sym is.generation) counts)
