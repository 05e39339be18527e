-- Laws of pieces and gates: what a torn write and a cut leave of them. They serve proofs.
use Rattle.std.proofs.Common.{◌≡◌, ℕ, ◌+◌, ◌<◌, ◌≤◌, ◌==◌, ◌⊎◌, inl, inr, lit<, true, false, List, [], ◌∷◌, length, get_or, take, drop, sym, ◌∙◌, ap, arith}
use Rattle.std.specs.List.{AllByRecursion}
use Rattle.std.proofs.lemmas.Bool.{eqb-true, eq-eqb}
use Rattle.std.proofs.lemmas.List.{get_or-take, get_or-drop, drop_more}
use Rattle.disk.specs.Stops.{Torn, Cut}
use Rattle.disk.specs.Torn.{torn_front, torn_back, torn_keeps_before, torn_keeps_behind, cut_keeps}
use Rattle.store_text.specs.Pieces.{Piece, Stands, AllStand, IsApart, Spares}
use Rattle.store_text.specs.Header.{header_size, gate_at, gate, open_byte, is_open}
use Rattle.store_text.specs.declared.header.Side.{Side}
use Rattle.store_text.specs.declared.header.Side.TheVariants.{A, B}
use Rattle.commit_images.specs.Keeping.{EndsBy}

-- ---- through a torn write

pub torn_stands : (at n : ℕ) (piece : Piece) (old new : List ℕ) → Torn at n old new → IsApart at n piece → Stands old piece → Stands new piece
torn_stands at n piece old new torn (inl before) stands = torn_keeps_before at n piece.at piece.bytes old new torn before stands
torn_stands at n piece old new torn (inr behind) stands = torn_keeps_behind at n piece.at piece.bytes old new torn behind stands

-- what a torn write spares stands on
pub all_spared : (at n : ℕ) (pieces : List Piece) (old new : List ℕ) → Torn at n old new → Spares at n pieces → AllStand pieces old → AllStand pieces new
all_spared at n [] old new torn spares stand = tt
all_spared at n (piece ∷ pieces) old new torn spares stand =
    (torn_stands at n piece old new torn spares.0 stand.0, all_spared at n pieces old new torn spares.1 stand.1)

-- a byte apart from the range reads as before
pub torn_reads : (at n place : ℕ) (old new : List ℕ) → Torn at n old new → place < length old → (place < at) ⊎ (at + n ≤ place)
    → get_or new place 0 ≡ get_or old place 0
torn_reads at n place old new torn inside (inl before) =
    sym (get_or-take (place + 1) new place 0 (omega arith))
    ∙ ap (λ (it : List ℕ). get_or it place 0) (torn_front at n (place + 1) old new torn (omega arith) (omega arith))
    ∙ get_or-take (place + 1) old place 0 (omega arith)
torn_reads at n place old new torn inside (inr behind) =
    let there : place + 0 ≡ place = omega arith in
    ap (λ (it : ℕ). get_or new it 0) (sym there)
    ∙ sym (get_or-drop place new 0 0)
    ∙ ap (λ (it : List ℕ). get_or it 0 0) (torn_back at n place old new torn behind)
    ∙ get_or-drop place old 0 0
    ∙ ap (λ (it : ℕ). get_or old it 0) there

-- ---- gates

pub gate_inside : (side : Side) → gate_at side < header_size
gate_inside A = lit< tt
gate_inside B = lit< tt

-- a gate apart from the range is open where it was
pub torn_open : (at n : ℕ) (side : Side) (old new : List ℕ) → Torn at n old new → header_size ≤ length old → IsApart at n (gate side)
    → is_open side new ≡ is_open side old
torn_open at n side old new torn long (inl before) =
    ap (λ (byte : ℕ). byte == open_byte)
    (torn_reads at n (gate_at side) old new torn (omega (arith, gate_inside side, long)) (inl (omega (arith, before))))
torn_open at n side old new torn long (inr behind) =
    ap (λ (byte : ℕ). byte == open_byte)
    (torn_reads at n (gate_at side) old new torn (omega (arith, gate_inside side, long)) (inr behind))

-- one byte that stands is the one that is read
pub byte_stands : (place byte : ℕ) (file : List ℕ) → take 1 (drop place file) ≡ byte ∷ [] → get_or file place 0 ≡ byte
byte_stands place byte file stands =
    let there : place + 0 ≡ place = omega arith in
    ap (λ (it : ℕ). get_or file it 0) (sym there)
    ∙ sym (get_or-drop place file 0 0)
    ∙ sym (get_or-take 1 (drop place file) 0 0 (omega arith))
    ∙ ap (λ (it : List ℕ). get_or it 0 0) stands

-- the byte that is read stands
pub stands_byte : (place byte : ℕ) (file : List ℕ) → place < length file → get_or file place 0 ≡ byte → take 1 (drop place file) ≡ byte ∷ []
stands_byte place byte file inside reads =
    ap (take 1) (drop_more file place 0 inside) ∙ ap (λ (it : ℕ). it ∷ []) reads

pub open_reads : (side : Side) (file : List ℕ) → is_open side file ≡ true → get_or file (gate_at side) 0 ≡ open_byte
open_reads side file opened = eqb-true (get_or file (gate_at side) 0) open_byte opened

pub reads_open : (side : Side) (file : List ℕ) → get_or file (gate_at side) 0 ≡ open_byte → is_open side file ≡ true
reads_open side file reads = eq-eqb (get_or file (gate_at side) 0) open_byte reads

-- an open gate stands as a piece
pub gate_stands : (side : Side) (file : List ℕ) → header_size ≤ length file → is_open side file ≡ true → Stands file (gate side)
gate_stands side file long opened =
    stands_byte (gate_at side) open_byte file (omega (arith, gate_inside side, long)) (open_reads side file opened)

-- and a gate that stands is open
pub stands_open : (side : Side) (file : List ℕ) → Stands file (gate side) → is_open side file ≡ true
stands_open side file stands = reads_open side file (byte_stands (gate_at side) open_byte file stands)

-- a gate that reads as 0 is closed
pub reads_shut : (side : Side) (file : List ℕ) → get_or file (gate_at side) 0 ≡ 0 → is_open side file ≡ false
reads_shut side file reads = ap (λ (byte : ℕ). byte == open_byte) reads

-- ---- through a cut

-- what ends before a cut stands on
pub all_before : (len : ℕ) (pieces : List Piece) (old new : List ℕ) → Cut len old new → AllByRecursion (EndsBy len) pieces
    → AllStand pieces old → AllStand pieces new
all_before len [] old new cut end stand = tt
all_before len (piece ∷ pieces) old new cut end stand =
    (cut_keeps len piece.at piece.bytes old new cut end.0 stand.0, all_before len pieces old new cut end.1 stand.1)

pub cut_open : (len : ℕ) (side : Side) (old new : List ℕ) → Cut len old new → header_size ≤ len → is_open side new ≡ is_open side old
cut_open len side old new cut behind =
    let inside : gate_at side < len = omega (arith, gate_inside side, behind) in
    ap (λ (byte : ℕ). byte == open_byte)
    (sym (get_or-take len new (gate_at side) 0 inside)
    ∙ ap (λ (it : List ℕ). get_or it (gate_at side) 0) cut.front
    ∙ get_or-take len old (gate_at side) 0 inside)
