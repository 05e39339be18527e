-- A good commit is told by its slot, its record, and what stands where its segments are.
use Rattle.std.proofs.Common.{◌≡◌, ◌∙◌, ℕ, ◌+◌, ◌<◌, ◌≤◌, ◌^◌, Bool, true, false, List, [], ◌∷◌, length, map, All, sym, ap, subst, arith}
use Rattle.std.specs.List.{AllByRecursion}
use Rattle.std.proofs.lemmas.List.Elements.{All-head, All-tail}
use Rattle.extent_pool.specs.Extents.{end_of, rounded}
use Rattle.extent_pool.specs.declared.extent.Extent.{Extent}
use Rattle.mapping.specs.Mapping.{Mapping}
use Rattle.segment.specs.Encoding.{IsEncoding}
use Rattle.segment.specs.Old.{IsOldEncoding}
use Rattle.segment_parts.specs.Heads.{OneSet}
use Rattle.store_text.specs.Header.{header_size}
use Rattle.store_text.specs.Pieces.{Piece, AllStand}
use Rattle.store_text.specs.Record.{IsRecord, record_text}
use Rattle.store_text.specs.declared.header.Side.{Side}
use Rattle.store_text.specs.declared.record.RecordText.{RecordText}
use Rattle.tree_json.specs.Value.{JsonValue}
use Rattle.commit_images.specs.Keeping.{AreToldByRecords, IsBehind, IsPlaced, SameBody}
use Rattle.commit_store.specs.Known.{greatest_limit}
use Rattle.commit_store.specs.Saying.{Saying, StoredSegment, StoreCommit, IsGood, IsNewSegment, IsOfForm, IsOldSegment, IsSegmentOf, extent_of, mapping_said, record_of, row_of}
use Rattle.commit_store.proofs.Once.{same_bodies}
use Rattle.one_commit.proofs.Once.{new_once, same_segments}
use Rattle.one_commit.proofs.Old.{OneOldRoot, old_once}

-- ---- its slot can name it

rounded_up : (len : ℕ) → len ≤ rounded len
rounded_up len = omega arith

abbrev IsBehindHeader : Extent → Type 0
IsBehindHeader extent = header_size ≤ extent.at

behind_all : (pieces : List Piece) → All IsBehindHeader (map extent_of pieces) → AllByRecursion IsBehind pieces
behind_all [] all = tt
behind_all (piece ∷ pieces) all =
    (All-head IsBehindHeader (extent_of piece) (map extent_of pieces) all, behind_all pieces (All-tail IsBehindHeader (extent_of piece) (map extent_of pieces) all))

body_ends : (limit : ℕ) (c : StoreCommit) → limit ≤ 2 ^ 38 → IsGood limit c → c.body.at + length c.body.bytes < 2 ^ 64
body_ends limit c few good =
    let within : end_of (extent_of c.body) ≤ limit
    = All-head (λ (extent : Extent). end_of extent ≤ limit) (extent_of c.body) (map extent_of c.segments) good.places.within in
    let up = rounded_up (length c.body.bytes) in
    omega (arith, within, up, few)

numbered : (generation : ℕ) → generation ≤ 2 ^ 62 → generation < 2 ^ 64
numbered generation last = omega (arith, last)

placed : (limit : ℕ) (c : StoreCommit) → limit ≤ greatest_limit → IsGood limit c → IsPlaced c
placed limit c few good = record {
  generation = numbered c.generation good.last;
  end = body_ends limit c few good;
  behind = behind_all (c.body ∷ c.segments) good.places.behind;
}

-- ---- its segments

abbrev pieces_said : Saying → List Piece
pieces_said says = map (λ (segment : StoredSegment). segment.piece) says.segments

abbrev IsOldBytes : StoredSegment → Type 0
IsOldBytes segment = IsOldEncoding segment.columns segment.piece.bytes

old_bytes : (m : Mapping) (segments : List StoredSegment) → AllByRecursion (IsOldSegment m) segments → AllByRecursion IsOldBytes segments
old_bytes m [] all = tt
old_bytes m (segment ∷ segments) all = (all.0.encoding, old_bytes m segments all.1)

once_old : OneSet → OneOldRoot → (one other : StoredSegment) → IsOldBytes one → IsOldBytes other → one.piece ≡ other.piece → one.columns ≡ other.columns
once_old one_set one_root one other is are piece =
    old_once one_set one_root one.columns other.columns other.piece.bytes (subst (λ (it : Piece). IsOldEncoding one.columns it.bytes) piece is) are

once_new : OneSet → (one other : StoredSegment) → IsNewSegment one → IsNewSegment other → one.piece ≡ other.piece → one.columns ≡ other.columns
once_new one_set one other is are piece =
    new_once one_set one.columns other.columns other.piece.bytes (subst (λ (it : Piece). IsEncoding one.columns it.bytes) piece is) are

segments_once : OneSet → OneOldRoot → (old : Bool) (file : List ℕ) (one other : Saying) → IsOfForm old one → IsOfForm old other
    → AllByRecursion (IsSegmentOf (mapping_said one)) one.segments → AllByRecursion (IsSegmentOf (mapping_said other)) other.segments
    → AllStand (pieces_said one) file → AllStand (pieces_said other) file → map row_of one.segments ≡ map row_of other.segments → one.segments ≡ other.segments
segments_once one_set one_root true file one other form forms is are stand stands same =
    same_segments (mapping_said one) (mapping_said other) IsOldBytes file (once_old one_set one_root) one.segments other.segments
    (old_bytes (mapping_said one) one.segments form.segments) (old_bytes (mapping_said other) other.segments forms.segments) is are stand stands same
segments_once one_set one_root false file one other form forms is are stand stands same =
    same_segments (mapping_said one) (mapping_said other) IsNewSegment file (once_new one_set) one.segments other.segments form forms is are stand stands same

-- ---- the whole of it

abbrev pub OneRecord : Type 0
OneRecord = (one other : RecordText) → IsRecord one → IsRecord other → record_text one ≡ record_text other → one ≡ other

abbrev says_with : Bool → List JsonValue → Bool → ℕ → List StoredSegment → Saying
says_with old bodies dynamic next segments = record { old = old; bodies = bodies; dynamic = dynamic; next = next; segments = segments }

abbrev commit_with : Side → ℕ → Piece → List Piece → Saying → StoreCommit
commit_with side generation body segments says = record { side = side; generation = generation; body = body; segments = segments; says = says }

says_once : OneSet → OneOldRoot → OneRecord → (limit : ℕ) (file : List ℕ) (c d : StoreCommit) → IsGood limit c → IsGood limit d → c.body ≡ d.body
    → AllStand c.segments file → AllStand d.segments file → c.says ≡ d.says
says_once one_set one_root one_record limit file c d is are body stand stands =
    let text : record_text (record_of c.says) ≡ record_text (record_of d.says) = sym is.text ∙ ap (λ (it : Piece). it.bytes) body ∙ are.text in
    let same : record_of c.says ≡ record_of d.says = one_record (record_of c.says) (record_of d.says) is.numbers are.numbers text in
    let old : c.says.old ≡ d.says.old = ap (λ (it : RecordText). it.old) same in
    let bodies : c.says.bodies ≡ d.says.bodies = same_bodies c.says.bodies d.says.bodies is.read are.read (ap (λ (it : RecordText). it.bodies) same) in
    let dynamic : c.says.dynamic ≡ d.says.dynamic = ap (λ (it : RecordText). it.dynamic) same in
    let next : c.says.next ≡ d.says.next = ap (λ (it : RecordText). it.next) same in
    let segments : c.says.segments ≡ d.says.segments
    = segments_once one_set one_root c.says.old file c.says d.says is.form (subst (λ (it : Bool). IsOfForm it d.says) (sym old) are.form) is.segments are.segments
    (subst (λ (it : List Piece). AllStand it file) is.pieces stand) (subst (λ (it : List Piece). AllStand it file) are.pieces stands)
    (ap (λ (it : RecordText). it.rows) same) in
    ap (λ (it : Bool). says_with it c.says.bodies c.says.dynamic c.says.next c.says.segments) old
    ∙ ap (λ (it : List JsonValue). says_with d.says.old it c.says.dynamic c.says.next c.says.segments) bodies
    ∙ ap (λ (it : Bool). says_with d.says.old d.says.bodies it c.says.next c.says.segments) dynamic
    ∙ ap (λ (it : ℕ). says_with d.says.old d.says.bodies d.says.dynamic it c.says.segments) next
    ∙ ap (λ (it : List StoredSegment). says_with d.says.old d.says.bodies d.says.dynamic d.says.next it) segments

commits_once : OneSet → OneOldRoot → OneRecord → (limit : ℕ) (file : List ℕ) (c d : StoreCommit) → IsGood limit c → IsGood limit d → SameBody c d
    → AllStand c.segments file → AllStand d.segments file → c ≡ d
commits_once one_set one_root one_record limit file c d is are same stand stands =
    let says = says_once one_set one_root one_record limit file c d is are same.body stand stands in
    let pieces : c.segments ≡ d.segments = is.pieces ∙ ap pieces_said says ∙ sym are.pieces in
    ap (λ (it : Side). commit_with it c.generation c.body c.segments c.says) same.side
    ∙ ap (λ (it : ℕ). commit_with d.side it c.body c.segments c.says) same.generation
    ∙ ap (λ (it : Piece). commit_with d.side d.generation it c.segments c.says) same.body
    ∙ ap (λ (it : List Piece). commit_with d.side d.generation d.body it c.says) pieces
    ∙ ap (λ (it : Saying). commit_with d.side d.generation d.body d.segments it) says

-- a good commit is told by its record
pub told : OneSet → OneOldRoot → OneRecord → (limit : ℕ) → limit ≤ greatest_limit → AreToldByRecords (IsGood limit)
told one_set one_root one_record limit few = record {
  placed = λ c good. placed limit c few good;
  rest = λ file c d is are same stand stands. commits_once one_set one_root one_record limit file c d is are same stand stands;
}
