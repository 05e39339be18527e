-- Laws of one image: what it shows, from what is known of it, and what of that stays known through a write or a cut. They serve
-- proofs.
use Rattle.std.proofs.Common.{◌≡◌, ℕ, ◌+◌, ◌^◌, ◌<◌, ◌≤◌, inl, inr, lit≤, Bool, true, false, List, [], ◌∷◌, ◌++◌, length, take, drop, Option, None, Some, refl, sym, ◌∙◌, ap, subst, arith}
use Rattle.std.specs.Int.{from_le_bytes, w64}
use Rattle.std.specs.List.{AllByRecursion}
use Rattle.std.proofs.lemmas.Bool.{false≢true}
use Rattle.std.proofs.lemmas.List.{take-take, take_at}
use Rattle.std.proofs.lemmas.Nat.{from_le_bytes-to_le_bytes_8}
use Rattle.byte_fields.specs.Fields.{spelled_u64}
use Rattle.disk.specs.Stops.{Torn, Cut}
use Rattle.store_text.specs.Pieces.{Piece, Stands, AllStand, IsApart, Spares}
use Rattle.store_text.specs.Header.{header_size, magic, other, gate_at, slot_at, gate, slot, is_open, generation_in}
use Rattle.store_text.specs.declared.header.Side.{Side}
use Rattle.store_text.specs.declared.header.Side.TheVariants.{A, B}
use Rattle.commit_images.specs.Commits.{Commit, pieces_of, IsAhead, Finds, Found}
use Rattle.commit_images.specs.Keeping.{idle, extents_of, LastEndsBy, IsBehind, IsPlaced, ArePlaced, IsNext, but_gate, StandsIn, IsKnown, IsFree}
use Rattle.commit_images.specs.Standing.{torn_stands, all_spared, torn_open, stands_open, all_before, cut_open}

-- ---- what an image shows

-- the generation that stands in a slot is the one that is read there
pub slot_generation : (side : Side) (generation at len : ℕ) (file : List ℕ) → generation < 2 ^ 64 → Stands file (slot side generation at len)
    → generation_in side file ≡ generation
unfolding generation_in
slot_generation side generation at len file fits stands =
    ap (from_le_bytes w64)
    (sym (take-take 8 24 (drop (slot_at side) file) (omega arith))
    ∙ ap (take 8) stands
    ∙ take_at (spelled_u64 generation) (spelled_u64 at ++ spelled_u64 len) 8 refl)
    ∙ from_le_bytes-to_le_bytes_8 generation fits

other_other : (side : Side) → other (other side) ≡ side
other_other A = refl
other_other B = refl

-- An image whose idle gate is closed shows the last commit, or none where there is none.
pub opens : {X : Type 0} (IsGood : Commit X → Type 0) (active : Option (Commit X)) (closed : Bool) (seen file : List ℕ) → Found IsGood seen active
    → IsKnown active closed file → is_open (idle active) file ≡ false → Found IsGood file active
opens IsGood None closed seen file found known shut =
    inr (record { long = known.long; stands = known.stands.0; a_closed = shut; b_closed = known.stands.1 })
opens IsGood (Some c) closed seen file found known shut = record {
  long = known.long;
  stand = known.stands;
  counts = record {
    opened = stands_open c.side file known.stands.1.0;
    ahead = λ opened. absurd (false≢true (sym shut ∙ opened));
  };
  good = found.good;
}

ahead_of : (side : Side) (own of_other : ℕ) → of_other < own → IsAhead side own of_other
ahead_of A own of_other less = omega arith
ahead_of B own of_other less = less

-- the slot of a commit that comes next counts, whether the gate of the last one is open or not
next_counts : {X : Type 0} (active : Option (Commit X)) (new : Commit X) (file : List ℕ) → ArePlaced active → IsNext active new → StandsIn active file
    → is_open (other new.side) file ≡ true → IsAhead new.side new.generation (generation_in (other new.side) file)
next_counts None new file placed next stands opened =
    let there : is_open B file ≡ true = subst (λ (side : Side). is_open (other side) file ≡ true) next.side opened in
    absurd (false≢true (sym stands.1 ∙ there))
next_counts (Some c) new file placed next stands opened =
    let there : other new.side ≡ c.side = ap other next.side ∙ other_other c.side in
    ahead_of new.side new.generation (generation_in (other new.side) file)
    (subst (λ (of_other : ℕ). of_other < new.generation)
    (sym (slot_generation c.side c.generation c.body.at (length c.body.bytes) file placed.generation stands.1.1.0)
    ∙ ap (λ (side : Side). generation_in side file) (sym there))
    next.above)

-- An image in which all of the next commit stands, its open gate too, shows that commit.
pub opens_new : {X : Type 0} (IsGood : Commit X → Type 0) (active : Option (Commit X)) (new : Commit X) (file : List ℕ) → ArePlaced active → IsNext active new
    → header_size ≤ length file → StandsIn active file → AllStand (pieces_of new) file → IsGood new → Finds IsGood file new
opens_new IsGood active new file placed next long stands stand good = record {
  long = long;
  stand = stand;
  counts = record { opened = stands_open new.side file stand.1.0; ahead = next_counts active new file placed next stands };
  good = good;
}

-- ---- what stays known

-- what a step on an image leaves known of it
pub record Preserves {X : Type 0} (active : Option (Commit X)) (old new : List ℕ) : Type 0 where
  pub long : header_size ≤ length new
  pub stands : StandsIn active new
  pub gates : (side : Side) → is_open side new ≡ is_open side old

pub still_known : {X : Type 0} (active : Option (Commit X)) (closed : Bool) (old new : List ℕ) → IsKnown active closed old → Preserves active old new
    → IsKnown active closed new
still_known active closed old new known same = record {
  long = same.long;
  stands = same.stands;
  shut = λ it. same.gates (idle active) ∙ known.shut it;
}

pub preserves_same : {X : Type 0} (active : Option (Commit X)) (closed : Bool) (file : List ℕ) → IsKnown active closed file → Preserves active file file
preserves_same active closed file known = record { long = known.long; stands = known.stands; gates = λ side. refl }

-- one step behind another
pub preserves_on : {X : Type 0} (active : Option (Commit X)) (old mid new : List ℕ) → Preserves active old mid → Preserves active mid new → Preserves active old new
preserves_on active old mid new first then = record { long = then.long; stands = then.stands; gates = λ side. then.gates side ∙ first.gates side }

-- ---- a write apart from the last commit

-- a range touches no piece of the last commit
abbrev pub SparesLast : {X : Type 0} → Option (Commit X) → ℕ → ℕ → Type 0
SparesLast None at n = IsApart at n magic
SparesLast (Some c) at n = Spares at n (pieces_of c)

spared_stands : {X : Type 0} (active : Option (Commit X)) (at n : ℕ) (old new : List ℕ) → Torn at n old new → SparesLast active at n
    → is_open B new ≡ is_open B old → StandsIn active old → StandsIn active new
spared_stands None at n old new torn spares same stands = (torn_stands at n magic old new torn spares stands.0, same ∙ stands.1)
spared_stands (Some c) at n old new torn spares same stands = all_spared at n (pieces_of c) old new torn spares stands

pub torn_preserves : {X : Type 0} (active : Option (Commit X)) (closed : Bool) (at n : ℕ) (old new : List ℕ) → Torn at n old new → SparesLast active at n
    → ((side : Side) → IsApart at n (gate side)) → IsKnown active closed old → Preserves active old new
torn_preserves active closed at n old new torn spares gates known =
    let same : (side : Side) → is_open side new ≡ is_open side old = λ side. torn_open at n side old new torn known.long (gates side) in
    record {
      long = omega (arith, known.long, torn.no_shorter);
      stands = spared_stands active at n old new torn spares (same B) known.stands;
      gates = same;
    }

-- a range inside the header touches nothing that stands behind it
pub spares_behind : (at n : ℕ) (pieces : List Piece) → at + n ≤ header_size → AllByRecursion IsBehind pieces → Spares at n pieces
spares_behind at n [] inside behind = tt
spares_behind at n (piece ∷ pieces) inside behind = (inr (omega (arith, inside, behind.0)), spares_behind at n pieces inside behind.1)

-- a new extent spares the header
behind_magic : (at n : ℕ) → header_size ≤ at → IsApart at n magic
behind_magic at n behind = inl (omega arith)

pub behind_gate : (at n : ℕ) (side : Side) → header_size ≤ at → IsApart at n (gate side)
behind_gate at n A behind = inl (omega arith)
behind_gate at n B behind = inl (omega arith)

behind_slot : (at n : ℕ) (side : Side) (generation place len : ℕ) → header_size ≤ at → IsApart at n (slot side generation place len)
behind_slot at n A generation place len behind = inl (omega arith)
behind_slot at n B generation place len behind = inl (omega arith)

free_spares : {X : Type 0} (active : Option (Commit X)) (piece : Piece) → IsFree active piece → SparesLast active piece.at (length piece.bytes)
free_spares None piece free = behind_magic piece.at (length piece.bytes) free.behind
free_spares (Some c) piece free = (
  behind_magic piece.at (length piece.bytes) free.behind,
  (
    behind_gate piece.at (length piece.bytes) c.side free.behind,
    (behind_slot piece.at (length piece.bytes) c.side c.generation c.body.at (length c.body.bytes) free.behind, free.spares),
  ),
)

pub free_preserves : {X : Type 0} (active : Option (Commit X)) (closed : Bool) (piece : Piece) (old new : List ℕ) → Torn piece.at (length piece.bytes) old new
    → IsFree active piece → IsKnown active closed old → Preserves active old new
free_preserves active closed piece old new torn free known =
    torn_preserves active closed piece.at (length piece.bytes) old new torn (free_spares active piece free)
    (λ side. behind_gate piece.at (length piece.bytes) side free.behind) known

-- ---- a write to the idle slot

slot_spares : {X : Type 0} (active : Option (Commit X)) → ArePlaced active → SparesLast active (slot_at (idle active)) 24
slot_spares None placed = inl (lit≤ tt)
slot_spares (Some c) placed = slot_spares_of c.side c placed
  where
    slot_spares_of : {X : Type 0} (side : Side) (c : Commit X) → IsPlaced c → Spares (slot_at (other side)) 24
        (magic ∷ gate side ∷ slot side c.generation c.body.at (length c.body.bytes) ∷ extents_of c)
    slot_spares_of A c placed =
        (inl (lit≤ tt), (inl (lit≤ tt), (inl (lit≤ tt), spares_behind 1_032 24 (extents_of c) (lit≤ tt) placed.behind)))
    slot_spares_of B c placed =
        (inl (lit≤ tt), (inr (lit≤ tt), (inr (lit≤ tt), spares_behind 520 24 (extents_of c) (lit≤ tt) placed.behind)))

slot_gate : (side of : Side) → IsApart (slot_at side) 24 (gate of)
slot_gate A A = inl (lit≤ tt)
slot_gate A B = inr (lit≤ tt)
slot_gate B A = inl (lit≤ tt)
slot_gate B B = inl (lit≤ tt)

pub slot_preserves : {X : Type 0} (active : Option (Commit X)) (closed : Bool) (old new : List ℕ) → Torn (slot_at (idle active)) 24 old new
    → ArePlaced active → IsKnown active closed old → Preserves active old new
slot_preserves active closed old new torn placed known =
    torn_preserves active closed (slot_at (idle active)) 24 old new torn (slot_spares active placed) (slot_gate (idle active)) known

-- ---- a write to the idle gate

gate_spares : {X : Type 0} (active : Option (Commit X)) → ArePlaced active → SparesLast active (gate_at (idle active)) 1
gate_spares None placed = inl (lit≤ tt)
gate_spares (Some c) placed = gate_spares_of c.side c placed
  where
    gate_spares_of : {X : Type 0} (side : Side) (c : Commit X) → IsPlaced c → Spares (gate_at (other side)) 1
        (magic ∷ gate side ∷ slot side c.generation c.body.at (length c.body.bytes) ∷ extents_of c)
    gate_spares_of A c placed =
        (inl (lit≤ tt), (inl (lit≤ tt), (inl (lit≤ tt), spares_behind 1_024 1 (extents_of c) (lit≤ tt) placed.behind)))
    gate_spares_of B c placed =
        (inl (lit≤ tt), (inr (lit≤ tt), (inr (lit≤ tt), spares_behind 512 1 (extents_of c) (lit≤ tt) placed.behind)))

gate_gate : (side : Side) → IsApart (gate_at side) 1 (gate (other side))
gate_gate A = inr (lit≤ tt)
gate_gate B = inl (lit≤ tt)

idle_stands : {X : Type 0} (active : Option (Commit X)) (old new : List ℕ) → Torn (gate_at (idle active)) 1 old new → ArePlaced active
    → header_size ≤ length old → StandsIn active old → StandsIn active new
idle_stands {X = Y} None old new torn placed long stands =
    spared_stands {X = Y} None 512 1 old new torn (gate_spares {X = Y} None placed) (torn_open 512 1 B old new torn long (gate_gate A)) stands
idle_stands (Some c) old new torn placed long stands =
    all_spared (gate_at (other c.side)) 1 (pieces_of c) old new torn (gate_spares (Some c) placed) stands

-- of an image behind a write to the idle gate all but that gate is known
pub gate_image : {X : Type 0} (active : Option (Commit X)) (closed : Bool) (old new : List ℕ) → Torn (gate_at (idle active)) 1 old new → ArePlaced active
    → IsKnown active closed old → IsKnown active false new
gate_image active closed old new torn placed known = record {
  long = omega (arith, known.long, torn.no_shorter);
  stands = idle_stands active old new torn placed known.long known.stands;
  shut = λ it. absurd (false≢true it);
}

-- a write to a gate spares all else of the commit behind that gate
gate_others : (side : Side) (generation place len : ℕ) (extents : List Piece) → AllByRecursion IsBehind extents
    → Spares (gate_at side) 1 (magic ∷ slot side generation place len ∷ extents)
gate_others A generation place len extents behind = (inl (lit≤ tt), (inr (lit≤ tt), spares_behind 512 1 extents (lit≤ tt) behind))
gate_others B generation place len extents behind = (inl (lit≤ tt), (inr (lit≤ tt), spares_behind 1_024 1 extents (lit≤ tt) behind))

pub others_stand : {X : Type 0} (new : Commit X) (old image : List ℕ) → Torn (gate_at new.side) 1 old image → IsPlaced new → AllStand (but_gate new) old
    → AllStand (but_gate new) image
others_stand new old image torn placed stand =
    all_spared (gate_at new.side) 1 (but_gate new) old image torn
    (gate_others new.side new.generation new.body.at (length new.body.bytes) (extents_of new) placed.behind) stand

-- ---- a cut behind the last commit

last_stands : {X : Type 0} (active : Option (Commit X)) (len : ℕ) (old new : List ℕ) → Cut len old new → header_size ≤ len → LastEndsBy len active
    → StandsIn active old → StandsIn active new
last_stands None len old new cut behind end stands =
    ((all_before len (magic ∷ []) old new cut (omega arith, tt) (stands.0, tt)).0, cut_open len B old new cut behind ∙ stands.1)
last_stands (Some c) len old new cut behind end stands =
    all_before len (pieces_of c) old new cut (omega arith, (gate_ends c.side len behind, (slot_ends c.side len behind, end))) stands
  where
    gate_ends : (side : Side) (len : ℕ) → header_size ≤ len → gate_at side + 1 ≤ len
    gate_ends A len behind = omega arith
    gate_ends B len behind = omega arith

    slot_ends : (side : Side) (len : ℕ) → header_size ≤ len → slot_at side + 24 ≤ len
    slot_ends A len behind = omega arith
    slot_ends B len behind = omega arith

pub cut_preserves : {X : Type 0} (active : Option (Commit X)) (closed : Bool) (len : ℕ) (old new : List ℕ) → Cut len old new → header_size ≤ len
    → LastEndsBy len active → IsKnown active closed old → Preserves active old new
cut_preserves active closed len old new cut behind end known = record {
  long = omega (arith, known.long, cut.no_shorter);
  stands = last_stands active len old new cut behind end known.stands;
  gates = λ side. cut_open len side old new cut behind;
}
