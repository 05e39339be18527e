-- Laws of what a file shows: one commit at most. They serve proofs.
use Rattle.std.proofs.Common.{◌≡◌, ℕ, ◌^◌, ◌<◌, ◌≤◌, inl, inr, true, List, ◌++◌, length, take, drop, Option, None, Some, refl, sym, ◌∙◌, ap, arith}
use Rattle.std.specs.Int.{from_le_bytes, w64}
use Rattle.std.proofs.lemmas.Bool.{false≢true}
use Rattle.std.proofs.lemmas.List.{take_at, drop_at}
use Rattle.std.proofs.lemmas.Nat.{from_le_bytes-to_le_bytes_8}
use Rattle.byte_fields.specs.Fields.{spelled_u64}
use Rattle.store_text.specs.Pieces.{Piece, Stands}
use Rattle.store_text.specs.Header.{slot_at, slot, is_open, generation_in}
use Rattle.store_text.specs.declared.header.Side.{Side}
use Rattle.store_text.specs.declared.header.Side.TheVariants.{A, B}
use Rattle.commit_images.specs.Commits.{Commit, Counts, Finds, IsBlank, Found}
use Rattle.commit_images.specs.Keeping.{IsPlaced, SameBody, AreToldByRecords}
use Rattle.commit_images.specs.Known.{slot_generation}

-- eight bytes in front spell one number
first_number : (n m : ℕ) (rest more : List ℕ) → n < 2 ^ 64 → m < 2 ^ 64 → spelled_u64 n ++ rest ≡ spelled_u64 m ++ more → n ≡ m
first_number n m rest more n-fits m-fits same =
    sym (from_le_bytes-to_le_bytes_8 n n-fits)
    ∙ ap (from_le_bytes w64)
    (sym (take_at (spelled_u64 n) rest 8 refl) ∙ ap (take 8) same ∙ take_at (spelled_u64 m) more 8 refl)
    ∙ from_le_bytes-to_le_bytes_8 m m-fits

behind_number : (n m : ℕ) (rest more : List ℕ) → spelled_u64 n ++ rest ≡ spelled_u64 m ++ more → rest ≡ more
behind_number n m rest more same =
    sym (drop_at (spelled_u64 n) rest 8 refl) ∙ ap (drop 8) same ∙ drop_at (spelled_u64 m) more 8 refl

-- a slot that is open on both sides counts once
not_both : (file : List ℕ) (generation of_other : ℕ) → Counts A generation file → Counts B of_other file → generation_in A file ≡ generation
    → generation_in B file ≡ of_other → ⊥
not_both file generation of_other a b reads_a reads_b =
    let first : generation_in B file ≤ generation = a.ahead b.opened in
    let then : generation_in A file < of_other = b.ahead a.opened in
    omega (arith, first, then, reads_a, reads_b)

generation_of : {X : Type 0} (IsGood : Commit X → Type 0) (file : List ℕ) (c : Commit X) → IsPlaced c → Finds IsGood file c
    → generation_in c.side file ≡ c.generation
generation_of IsGood file c placed finds =
    slot_generation c.side c.generation c.body.at (length c.body.bytes) file placed.generation finds.stand.1.1.0

same_side_at : {X : Type 0} (IsGood : Commit X → Type 0) (file : List ℕ) (one other : Side) (own its : ℕ) → Counts one own file → Counts other its file
    → generation_in one file ≡ own → generation_in other file ≡ its → one ≡ other
same_side_at IsGood file A A own its counts others reads others_read = refl
same_side_at IsGood file A B own its counts others reads others_read = absurd (not_both file own its counts others reads others_read)
same_side_at IsGood file B A own its counts others reads others_read = absurd (not_both file its own others counts others_read reads)
same_side_at IsGood file B B own its counts others reads others_read = refl

same_pieces : (file : List ℕ) (one other : Piece) → one.at ≡ other.at → length one.bytes ≡ length other.bytes → Stands file one → Stands file other
    → one ≡ other
same_pieces file one other at len stands others =
    let bytes : one.bytes ≡ other.bytes
    = sym stands ∙ (ap (λ (n : ℕ). take n (drop one.at file)) len ∙ (ap (λ (n : ℕ). take (length other.bytes) (drop n file)) at ∙ others)) in
    ap (λ (n : ℕ). record { at = n; bytes = one.bytes }) at ∙ ap (λ (it : List ℕ). record { at = other.at; bytes = it }) bytes

-- what two commits in one file have in common: their slot and their record
pub same_body : {X : Type 0} (IsGood : Commit X → Type 0) (file : List ℕ) (c d : Commit X) → IsPlaced c → IsPlaced d → Finds IsGood file c → Finds IsGood file d
    → SameBody c d
same_body IsGood file c d c-placed d-placed c-finds d-finds =
    let side : c.side ≡ d.side
    = same_side_at IsGood file c.side d.side c.generation d.generation c-finds.counts d-finds.counts
    (generation_of IsGood file c c-placed c-finds) (generation_of IsGood file d d-placed d-finds) in
    let slots : (slot c.side c.generation c.body.at (length c.body.bytes)).bytes ≡ (slot d.side d.generation d.body.at (length d.body.bytes)).bytes
    = sym c-finds.stand.1.1.0 ∙ (ap (λ (it : Side). take 24 (drop (slot_at it) file)) side ∙ d-finds.stand.1.1.0) in
    let behind : spelled_u64 c.body.at ++ spelled_u64 (length c.body.bytes) ≡ spelled_u64 d.body.at ++ spelled_u64 (length d.body.bytes)
    = behind_number c.generation d.generation (spelled_u64 c.body.at ++ spelled_u64 (length c.body.bytes))
    (spelled_u64 d.body.at ++ spelled_u64 (length d.body.bytes)) slots in
    let at : c.body.at ≡ d.body.at
    = first_number c.body.at d.body.at (spelled_u64 (length c.body.bytes)) (spelled_u64 (length d.body.bytes))
    (omega (arith, c-placed.end)) (omega (arith, d-placed.end)) behind in
    let last : spelled_u64 (length c.body.bytes) ≡ spelled_u64 (length d.body.bytes)
    = behind_number c.body.at d.body.at (spelled_u64 (length c.body.bytes)) (spelled_u64 (length d.body.bytes)) behind in
    let len : length c.body.bytes ≡ length d.body.bytes
    = sym (from_le_bytes-to_le_bytes_8 (length c.body.bytes) (omega (arith, c-placed.end)))
    ∙ (ap (from_le_bytes w64) last ∙ from_le_bytes-to_le_bytes_8 (length d.body.bytes) (omega (arith, d-placed.end))) in
    record {
      side = side;
      generation =
          first_number c.generation d.generation (spelled_u64 c.body.at ++ spelled_u64 (length c.body.bytes))
          (spelled_u64 d.body.at ++ spelled_u64 (length d.body.bytes)) c-placed.generation d-placed.generation slots;
      body = same_pieces file c.body d.body at len c-finds.stand.1.1.1.0 d-finds.stand.1.1.1.0;
    }

-- a file without a commit shows none
shut_shows_none : {X : Type 0} (IsGood : Commit X → Type 0) (file : List ℕ) (c : Commit X) → IsBlank file → Finds IsGood file c → ⊥
shut_shows_none IsGood file c blank finds = shut_at c.side file blank finds.counts.opened
  where
    shut_at : (side : Side) (file : List ℕ) → IsBlank file → is_open side file ≡ true → ⊥
    shut_at A file blank opened = false≢true (sym blank.a_closed ∙ opened)
    shut_at B file blank opened = false≢true (sym blank.b_closed ∙ opened)

none_shows : {X : Type 0} (IsGood : Commit X → Type 0) (file : List ℕ) (c : Commit X) → Found IsGood file None → Finds IsGood file c → ⊥
none_shows IsGood file c (inl empty) finds = omega (arith, ap length empty, finds.long)
none_shows IsGood file c (inr blank) finds = shut_shows_none IsGood file c blank finds

-- at most one commit, or none
pub found_once : {X : Type 0} (IsGood : Commit X → Type 0) (file : List ℕ) (one other : Option (Commit X)) → AreToldByRecords IsGood → Found IsGood file one
    → Found IsGood file other → one ≡ other
found_once IsGood file None None told found others = refl
found_once IsGood file None (Some d) told found others = absurd (none_shows IsGood file d found others)
found_once IsGood file (Some c) None told found others = absurd (none_shows IsGood file c others found)
found_once {X = Y} IsGood file (Some c) (Some d) told found others =
    ap (λ (it : Commit Y). Some it)
    (told.rest file c d found.good others.good
    (same_body IsGood file c d (told.placed c found.good) (told.placed d others.good) found others)
    found.stand.1.1.1.1 others.stand.1.1.1.1)
