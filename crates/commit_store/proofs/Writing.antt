-- A commit that a store prepared is written behind the last one: its new extents are apart from all that stands.
use Rattle.std.proofs.Common.{◌≡◌, ℕ, ◌+◌, ◌==◌, ◌<◌, ◌≤◌, ◌^◌, ◌⊎◌, inl, inr, ⊎_elim, cond, Bool, true, false, not, List, [], ◌∷◌, ◌++◌, length, map, filter, All, Option, None, Some, unwrap_or, refl, sym, ◌∙◌, ap, subst, arith}
use Rattle.std.specs.List.{AllByRecursion, AllZip}
use Rattle.std.specs.Option.{is_none}
use Rattle.std.proofs.lemmas.Bool.{eqb-true, false≢true}
use Rattle.std.proofs.lemmas.List.Elements.{All-head, All-tail}
use Rattle.std.proofs.lemmas.Option.{none-some}
use Rattle.extent_pool.specs.Extents.{AreDisjoint, end_of, rounded}
use Rattle.extent_pool.specs.declared.extent.Extent.{Extent}
use Rattle.segment.specs.Live.{EntryState}
use Rattle.segment_parts.specs.Text.{segment_text}
use Rattle.segment_parts.specs.declared.columns.Columns.{Columns}
use Rattle.store_text.specs.Header.{header_size, other, slot}
use Rattle.store_text.specs.Pieces.{Piece, IsApart, Spares}
use Rattle.store_text.specs.Record.{record_text}
use Rattle.store_text.specs.declared.header.Side.{Side}
use Rattle.store_text.specs.declared.record.RecordText.{RecordText}
use Rattle.store_text.specs.declared.record.Row.{Row}
use Rattle.commit_images.specs.Commits.{slot_of}
use Rattle.commit_images.specs.Keeping as keeping
use Rattle.commit_images.specs.Keeping.{AreFree, IsAbove, IsBehind, IsFree, IsNext, IsPlaced, idle, is_first, named_by}
use Rattle.commit_images.specs.Writes.{AllApart, AreApart}
use Rattle.commit_store.proofs.Apart.{Apart, AreAllApart, HasBytes, all_apart, disjoint_permuted}
use Rattle.commit_store.proofs.Lists.{by_recursion}
use Rattle.commit_store.proofs.Sizes.{text_some}
use Rattle.commit_store.specs.declared.known.KnownSegment.{KnownSegment}
use Rattle.commit_store.specs.Known.{StoreState, IsStore, IsLast, IsOfCommit, IsOfSegment, AreNamed, AreOfSegments, KeepsStore, greatest_limit}
use Rattle.commit_store.specs.Preparing.{PlannedSegment, PreparedState, IsAsKnown, IsCommitOf, IsPreparedBy, has_id, header_extent, idle_side, is_at, known_as, moves, new_extents, piece_of, stays, stored_of, taken_by}
use Rattle.commit_store.specs.Ready.{Among, IsWriting, IsWrittenBy}
use Rattle.commit_store.specs.Rows.{planned_row, record_piece, record_prepared, written_pieces}
use Rattle.commit_store.specs.Saying.{StoredSegment, Saying, StoreCommit, IsGood, IsNewSegment, IsOfForm, extent_of, row_of, record_of}

pub some_once : {A : Type 0} (one other : A) → Some one ≡ Some other → one ≡ other
some_once one other same = ap (λ it. unwrap_or it one) same

-- ---- the slot

pub idle_is : (store : StoreState) (found : Option StoreCommit) → IsLast store found → idle_side store.side ≡ idle found
idle_is store None last = ap idle_side last
idle_is store (Some f) last = ap idle_side last.side

first_is : (store : StoreState) (found : Option StoreCommit) → IsLast store found → is_none store.side ≡ is_first found
first_is store None last = ap is_none last
first_is store (Some f) last = ap is_none last.side

above_is : (store : StoreState) (found : Option StoreCommit) (generation : ℕ) → IsLast store found → generation ≡ store.tried + 1 → IsAbove found generation
above_is store None generation last is = tt
above_is store (Some f) generation last is = omega (arith, last.tried, is)

behind_all : (pieces : List Piece) → All (λ (extent : Extent). header_size ≤ extent.at) (map extent_of pieces) → AllByRecursion IsBehind pieces
behind_all [] all = tt
behind_all (piece ∷ pieces) all = (
  All-head (λ (extent : Extent). header_size ≤ extent.at) (extent_of piece) (map extent_of pieces) all,
  behind_all pieces (All-tail (λ (extent : Extent). header_size ≤ extent.at) (extent_of piece) (map extent_of pieces) all),
)

-- a good commit is one that a slot can name
pub placed_good : (limit : ℕ) (c : StoreCommit) → limit ≤ greatest_limit → IsGood limit c → IsPlaced c
placed_good limit c few good =
    let ends : end_of (extent_of c.body) ≤ limit = All-head (λ (extent : Extent). end_of extent ≤ limit) (extent_of c.body) (map extent_of c.segments) good.places.within in
    record {
      generation = omega (arith, good.last);
      end = omega (arith, ends, few);
      behind = behind_all (c.body ∷ c.segments) good.places.behind;
    }

-- ---- the record

same_rows : (segments : List PlannedSegment) → AllByRecursion (λ (segment : PlannedSegment). segment.extent.len ≡ length (segment_text segment.entry.columns)) segments
    → map row_of (map stored_of segments) ≡ map planned_row segments
same_rows [] long = refl
same_rows (segment ∷ segments) long =
    ap (λ (n : ℕ). record { at = segment.extent.at; len = n; dead = (planned_row segment).dead } ∷ map row_of (map stored_of segments)) (sym long.0)
    ∙ ap (λ (rows : List Row). planned_row segment ∷ rows) (same_rows segments long.1)

pub record_is : (store : StoreState) (prepared : PreparedState) (c : StoreCommit) → IsPreparedBy store prepared → IsCommitOf store prepared c → record_of c.says ≡ record_prepared prepared
record_is store prepared c by is =
    let rows : map row_of c.says.segments ≡ map planned_row prepared.segments = ap (map row_of) is.segments ∙ same_rows prepared.segments by.long in
    ap (λ (it : Bool). record { old = it; next = c.says.next; dynamic = c.says.dynamic; bodies = (record_of c.says).bodies; rows = (record_of c.says).rows }) is.old
    ∙ ap (λ (it : ℕ). record { old = false; next = it; dynamic = c.says.dynamic; bodies = (record_of c.says).bodies; rows = (record_of c.says).rows }) is.next
    ∙ ap (λ (it : Bool). record { old = false; next = prepared.next; dynamic = it; bodies = (record_of c.says).bodies; rows = (record_of c.says).rows }) is.dynamic
    ∙ ap (λ (it : List (List ℕ)). record { old = false; next = prepared.next; dynamic = prepared.dynamic; bodies = it; rows = (record_of c.says).rows }) is.bodies
    ∙ ap (λ (it : List Row). record { old = false; next = prepared.next; dynamic = prepared.dynamic; bodies = prepared.bodies; rows = it }) rows

body_is : (store : StoreState) (prepared : PreparedState) (c : StoreCommit) → IsPreparedBy store prepared → IsCommitOf store prepared c → c.body ≡ record_piece prepared
body_is store prepared c by is =
    let bytes : c.body.bytes ≡ record_text (record_prepared prepared) = is.good.text ∙ ap record_text (record_is store prepared c by is) in
    ap (λ (n : ℕ). record { at = n; bytes = c.body.bytes }) (ap (λ (extent : Extent). extent.at) is.record_extent)
    ∙ ap (λ (it : List ℕ). record { at = prepared.record_extent.at; bytes = it }) bytes

-- ---- the extents that are written

new_pieces : (segments : List PlannedSegment) → AllByRecursion (λ (segment : PlannedSegment). segment.extent.len ≡ length (segment_text segment.entry.columns)) segments
    → map extent_of (map piece_of (filter moves segments)) ≡ map (λ (segment : PlannedSegment). segment.extent) (filter moves segments)
new_pieces [] long = refl
new_pieces (segment ∷ segments) long = by_move (moves segment) (new_pieces segments long.1)
  where
    by_move : (it : Bool) → map extent_of (map piece_of (filter moves segments)) ≡ map (λ (own : PlannedSegment). own.extent) (filter moves segments) → map extent_of (map piece_of (cond it (segment ∷ filter moves segments) (filter moves segments))) ≡ map (λ (own : PlannedSegment). own.extent) (cond it (segment ∷ filter moves segments) (filter moves segments))
    by_move true more =
        ap (λ (n : ℕ). record { at = segment.extent.at; len = n } ∷ map extent_of (map piece_of (filter moves segments))) (sym long.0)
        ∙ ap (λ (extents : List Extent). segment.extent ∷ extents) more
    by_move false more = more

map_push : {A B : Type 0} (f : A → B) (xs : List A) (x : A) → map f (xs ++ x ∷ []) ≡ map f xs ++ f x ∷ []
map_push f [] x = refl
map_push f (first ∷ xs) x = ap (λ it. f first ∷ it) (map_push f xs x)

written_extents : (store : StoreState) (prepared : PreparedState) (c : StoreCommit) → IsPreparedBy store prepared → IsCommitOf store prepared c
    → map extent_of (written_pieces prepared) ≡ new_extents prepared
written_extents store prepared c by is =
    let last : extent_of (record_piece prepared) ≡ prepared.record_extent = ap extent_of (sym (body_is store prepared c by is)) ∙ is.record_extent in
    map_push extent_of (map piece_of (filter moves prepared.segments)) (record_piece prepared)
    ∙ ap (λ (it : List Extent). it ++ extent_of (record_piece prepared) ∷ []) (new_pieces prepared.segments by.long)
    ∙ ap (λ (it : Extent). map (λ (segment : PlannedSegment). segment.extent) (filter moves prepared.segments) ++ it ∷ []) last

-- ---- apart

later_apart : (piece : Piece) (pieces : List Piece) (rest : List Extent) → AllByRecursion (Apart (extent_of piece)) (map extent_of pieces ++ rest) → AllApart pieces piece
later_apart piece [] rest apart = tt
later_apart piece (it ∷ pieces) rest apart = (apart.0, later_apart piece pieces rest apart.1)

pieces_apart : (pieces : List Piece) (rest : List Extent) → AreAllApart (map extent_of pieces ++ rest) → AreApart pieces
pieces_apart [] rest apart = tt
pieces_apart (piece ∷ pieces) rest apart = (later_apart piece pieces rest apart.0, pieces_apart pieces rest apart.1)

swapped : {A B : Type 0} → A ⊎ B → B ⊎ A
swapped (inl a) = inr a
swapped (inr b) = inl b

spares_named : (piece : Piece) (named : List Piece) → AllByRecursion (Apart (extent_of piece)) (map extent_of named) → Spares piece.at (length piece.bytes) named
spares_named piece [] apart = tt
spares_named piece (it ∷ named) apart = (swapped apart.0, spares_named piece named apart.1)

behind_them : (piece : Piece) (pieces : List Piece) (first : Extent) (rest : List Extent) → AllByRecursion (Apart (extent_of piece)) (map extent_of pieces ++ first ∷ rest) → AllByRecursion (Apart (extent_of piece)) rest
behind_them piece [] first rest apart = apart.1
behind_them piece (it ∷ pieces) first rest apart = behind_them piece pieces first rest apart.1

behind_header : (piece : Piece) (pieces : List Piece) (rest : List Extent) → 1 ≤ length piece.bytes → AllByRecursion (Apart (extent_of piece)) (map extent_of pieces ++ header_extent ∷ rest)
    → header_size ≤ piece.at
behind_header piece [] rest some apart =
    ⊎_elim (λ (before : piece.at + length piece.bytes ≤ 0). absurd (omega (arith, before, some))) (λ (behind : header_size ≤ piece.at). behind) apart.0
behind_header piece (it ∷ pieces) rest some apart = behind_header piece pieces rest some apart.1

free_all : (found : Option StoreCommit) (pieces : List Piece) → AllByRecursion HasBytes (map extent_of pieces)
    → AreAllApart (map extent_of pieces ++ header_extent ∷ map extent_of (named_by found)) → AreFree found pieces
free_all found [] some apart = tt
free_all found (piece ∷ pieces) some apart = (
  record {
    behind = behind_header piece pieces (map extent_of (named_by found)) some.0 apart.0;
    spares = spares_named piece (named_by found) (behind_them piece pieces header_extent (map extent_of (named_by found)) apart.0);
  },
  free_all found pieces some.1 apart.1,
)

-- each new extent has a byte
moved_some : (segments : List PlannedSegment) (last : Extent) → AllByRecursion (λ (segment : PlannedSegment). segment.extent.len ≡ length (segment_text segment.entry.columns)) segments
    → HasBytes last → AllByRecursion HasBytes (map (λ (segment : PlannedSegment). segment.extent) (filter moves segments) ++ last ∷ [])
moved_some [] last long some = (some, tt)
moved_some (segment ∷ segments) last long some = by_move (moves segment) (moved_some segments last long.1 some)
  where
    by_move : (it : Bool) → AllByRecursion HasBytes (map (λ (own : PlannedSegment). own.extent) (filter moves segments) ++ last ∷ []) → AllByRecursion HasBytes (map (λ (own : PlannedSegment). own.extent) (cond it (segment ∷ filter moves segments) (filter moves segments)) ++ last ∷ [])
    by_move true more = (omega (arith, long.0, text_some segment.entry.columns), more)
    by_move false more = more

both_some : (ones others : List Extent) → AllByRecursion HasBytes ones → AllByRecursion HasBytes others → AllByRecursion HasBytes (ones ++ others)
both_some [] others some more = more
both_some (one ∷ ones) others some more = (some.0, both_some ones others some.1 more)

new_some : (store : StoreState) (prepared : PreparedState) (c : StoreCommit) → IsPreparedBy store prepared → IsCommitOf store prepared c → AllByRecursion HasBytes (new_extents prepared)
new_some store prepared c by is =
    moved_some prepared.segments prepared.record_extent by.long
    (subst HasBytes is.record_extent (All-head HasBytes (extent_of c.body) (map extent_of c.segments) is.good.places.some))

no_known : (store : StoreState) (found : Option StoreCommit) → found ≡ None → IsStore store → IsLast store found → store.known ≡ []
no_known store found same is last =
    none_known store.side store.known store.named (subst (λ (it : Option StoreCommit). IsLast store it) same last) is.names
  where
    none_known : (side : Option Side) (known : List KnownSegment) (named : List Extent) → side ≡ None → AreNamed side known named → known ≡ []
    none_known None known named same are = are.0
    none_known (Some side) known named same are = absurd (none-some side (sym same))

named_is : (store : StoreState) (found : Option StoreCommit) → IsStore store → IsLast store found → store.named ≡ map extent_of (named_by found)
named_is store (Some f) is last = last.named
named_is store None is last = none_named store.side store.known store.named last is.names
  where
    none_named : (side : Option Side) (known : List KnownSegment) (named : List Extent) → side ≡ None → AreNamed side known named → named ≡ []
    none_named None known named same are = are.1
    none_named (Some side) known named same are = absurd (none-some side (sym same))

-- ---- what stays stands already

known_stands : (known : List KnownSegment) (segments : List StoredSegment) (id : ℕ) (own : KnownSegment) → AllZip IsOfSegment known segments → AllByRecursion IsNewSegment segments
    → known_as known id ≡ Some own → Among (record { at = own.extent.at; bytes = segment_text own.entry.columns }) (map (λ (it : StoredSegment). it.piece) segments)
known_stands [] [] id own are form found = absurd (none-some own found)
known_stands [] (segment ∷ segments) id own are form found = absurd are
known_stands (it ∷ known) [] id own are form found = absurd are
known_stands (it ∷ known) (segment ∷ segments) id own are form found = by_id (has_id id it) refl (known_stands known segments id own are.1 form.1)
  where
    here : (one : KnownSegment) → Some it ≡ Some one → segment.piece ≡ record { at = one.extent.at; bytes = segment_text one.entry.columns }
    here one same =
        let is : it ≡ one = some_once it one same in
        let extent : extent_of segment.piece ≡ one.extent = sym are.0.extent ∙ ap (λ (k : KnownSegment). k.extent) is in
        let columns : segment.columns ≡ one.entry.columns = sym are.0.columns ∙ ap (λ (k : KnownSegment). k.entry.columns) is in
        ap (λ (n : ℕ). record { at = n; bytes = segment.piece.bytes }) (ap (λ (it : Extent). it.at) extent)
        ∙ ap (λ (bytes : List ℕ). record { at = one.extent.at; bytes = bytes }) (form.0.text ∙ ap segment_text columns)

    by_id : (same : Bool) → has_id id it ≡ same
        → (known_as known id ≡ Some own → Among (record { at = own.extent.at; bytes = segment_text own.entry.columns }) (map (λ (it : StoredSegment). it.piece) segments))
        → Among (record { at = own.extent.at; bytes = segment_text own.entry.columns }) (map (λ (it : StoredSegment). it.piece) (segment ∷ segments))
    by_id true same more = inl (here own (ap (λ (b : Bool). cond b (Some it) (known_as known id)) (sym same) ∙ found))
    by_id false same more = inr (more (ap (λ (b : Bool). cond b (Some it) (known_as known id)) (sym same) ∙ found))

old_knows_none : (old : Bool) (known : List KnownSegment) (segments : List StoredSegment) (says : Saying) (id : ℕ) (own : KnownSegment) → AreOfSegments old known says.segments → IsOfForm old says
    → known_as known id ≡ Some own → Among (record { at = own.extent.at; bytes = segment_text own.entry.columns }) (map (λ (it : StoredSegment). it.piece) says.segments)
old_knows_none true known segments says id own are form found = absurd (none-some own (sym (ap (λ (it : List KnownSegment). known_as it id) are) ∙ found))
old_knows_none false known segments says id own are form found = known_stands known says.segments id own are form found

-- a segment that stays is one of the last commit's pieces
stays_among : (store : StoreState) (found : Option StoreCommit) (segment : PlannedSegment) (good : (f : StoreCommit) → found ≡ Some f → IsGood store.limit f) → IsStore store → IsLast store found
    → IsAsKnown segment (known_as store.known segment.entry.id) → stays segment ≡ true → Among (piece_of segment) (named_by found)
stays_among store found segment good is last as_known stay = by_known (known_as store.known segment.entry.id) refl as_known
  where
    at_before : (before : Option Extent) (own : KnownSegment) → segment.before ≡ before → before ≡ Some own.extent → own.extent.at ≡ segment.extent.at
    at_before before own same is_own =
        eqb-true own.extent.at segment.extent.at (ap (is_at segment.extent.at) (sym is_own ∙ sym same) ∙ stay)

    by_found : (f : Option StoreCommit) → found ≡ f → (own : KnownSegment) → known_as store.known segment.entry.id ≡ Some own → segment.entry ≡ own.entry → segment.before ≡ Some own.extent
        → Among (piece_of segment) (named_by f)
    by_found None same own known entry before =
        absurd (none-some own (sym (ap (λ (it : List KnownSegment). known_as it segment.entry.id) (no_known store found same is last)) ∙ known))
    by_found (Some f) same own known entry before =
        let own_last : IsOfCommit store f = subst (λ (it : Option StoreCommit). IsLast store it) same last in
        let own_good : IsGood store.limit f = good f same in
        let piece : record { at = own.extent.at; bytes = segment_text own.entry.columns } ≡ piece_of segment
        = ap (λ (n : ℕ). record { at = n; bytes = segment_text own.entry.columns }) (at_before segment.before own refl before)
        ∙ ap (λ (it : EntryState). record { at = segment.extent.at; bytes = segment_text it.columns }) (sym entry) in
        inr (subst (λ (it : Piece). Among it f.segments) piece
        (subst (λ (it : List Piece). Among (record { at = own.extent.at; bytes = segment_text own.entry.columns }) it) (sym own_good.pieces)
        (old_knows_none f.says.old store.known f.says.segments f.says segment.entry.id own own_last.known own_good.form known)))

    by_known : (own : Option KnownSegment) → known_as store.known segment.entry.id ≡ own → IsAsKnown segment own → Among (piece_of segment) (named_by found)
    by_known None same new = absurd (false≢true (ap (is_at segment.extent.at) (sym new) ∙ stay))
    by_known (Some own) same known = by_found found refl own same known.0 known.1

more_among : (piece first : Piece) (pieces : List Piece) (it : Bool) (rest : List PlannedSegment) (segment : PlannedSegment) (last : List Piece)
    → Among piece (map piece_of rest ++ last) → Among piece (map piece_of (cond it (segment ∷ rest) rest) ++ last)
more_among piece first pieces true rest segment last among = inr among
more_among piece first pieces false rest segment last among = among

last_among : (pieces : List Piece) (piece : Piece) → Among piece (pieces ++ piece ∷ [])
last_among [] piece = inl refl
last_among (it ∷ pieces) piece = inr (last_among pieces piece)

segments_covered : (named last : List Piece) (segments : List PlannedSegment) → AllByRecursion (λ (segment : PlannedSegment). stays segment ≡ true → Among (piece_of segment) named) segments
    → AllByRecursion (λ (piece : Piece). Among piece (map piece_of (filter moves segments) ++ last) ⊎ Among piece named) (map piece_of segments)
segments_covered named last [] all = tt
segments_covered named last (segment ∷ segments) all = (by_stay (stays segment) refl, wider segments (segments_covered named last segments all.1))
  where
    by_stay : (it : Bool) → stays segment ≡ it → Among (piece_of segment) (map piece_of (cond (not (stays segment)) (segment ∷ filter moves segments) (filter moves segments)) ++ last) ⊎ Among (piece_of segment) named
    by_stay true same = inr (all.0 same)
    by_stay false same =
        inl (subst (λ (it : Bool). Among (piece_of segment) (map piece_of (cond (not it) (segment ∷ filter moves segments) (filter moves segments)) ++ last)) (sym same) (inl refl))

    wider : (rest : List PlannedSegment)
        → AllByRecursion (λ (piece : Piece). Among piece (map piece_of (filter moves segments) ++ last) ⊎ Among piece named) (map piece_of rest)
        → AllByRecursion (λ (piece : Piece). Among piece (map piece_of (cond (not (stays segment)) (segment ∷ filter moves segments) (filter moves segments)) ++ last) ⊎ Among piece named) (map piece_of rest)
    wider [] covered = tt
    wider (it ∷ rest) covered = (
      ⊎_elim
          (λ (own : Among (piece_of it) (map piece_of (filter moves segments) ++ last)). inl (more_among (piece_of it) (piece_of segment) last (not (stays segment)) (filter moves segments) segment last own))
          (λ (old : Among (piece_of it) named). inr old)
          covered.0,
      wider rest covered.1,
    )

-- ---- all together

all_stay : (store : StoreState) (found : Option StoreCommit) → ((f : StoreCommit) → found ≡ Some f → IsGood store.limit f) → IsStore store → IsLast store found
    → (segments : List PlannedSegment) → AllByRecursion (λ (segment : PlannedSegment). IsAsKnown segment (known_as store.known segment.entry.id)) segments
    → AllByRecursion (λ (segment : PlannedSegment). stays segment ≡ true → Among (piece_of segment) (named_by found)) segments
all_stay store found good is last [] known = tt
all_stay store found good is last (segment ∷ segments) known =
    (λ stay. stays_among store found segment good is last known.0 stay, all_stay store found good is last segments known.1)

pieces_are : (segments : List PlannedSegment) → map (λ (it : StoredSegment). it.piece) (map stored_of segments) ≡ map piece_of segments
pieces_are [] = refl
pieces_are (segment ∷ segments) = ap (λ (pieces : List Piece). piece_of segment ∷ pieces) (pieces_are segments)

last_good : (store : StoreState) (found : Option StoreCommit) (images : List ℕ → Type 0) → KeepsStore store found images → (f : StoreCommit) → found ≡ Some f → IsGood store.limit f
last_good store None images keeps f same = absurd (none-some f same)
last_good store (Some own) images keeps f same = subst (λ (it : StoreCommit). IsGood store.limit it) (some_once own f same) keeps.keeps.some.2.good

-- a store writes what it prepared, for the commit that it is
pub writing_is : (store : StoreState) (prepared : PreparedState) (found : Option StoreCommit) (c : StoreCommit) (images : List ℕ → Type 0) → IsStore store → IsPreparedBy store prepared
    → IsCommitOf store prepared c → KeepsStore store found images → IsWriting store (written_pieces prepared) prepared.record_extent found c images
writing_is store prepared found c images is by commit keeps =
    let last = keeps.last in
    let placed : IsPlaced c = placed_good store.limit c is.limit commit.good in
    let extents : map extent_of (written_pieces prepared) ≡ new_extents prepared = written_extents store prepared c by commit in
    let body : c.body ≡ record_piece prepared = body_is store prepared c by commit in
    let named : store.named ≡ map extent_of (named_by found) = named_is store found is last in
    let apart : AreAllApart (map extent_of (written_pieces prepared) ++ header_extent ∷ map extent_of (named_by found))
    = subst (λ (it : List Extent). AreAllApart (map extent_of (written_pieces prepared) ++ header_extent ∷ it)) named
    (subst (λ (it : List Extent). AreAllApart (it ++ taken_by store)) (sym extents)
    (all_apart (new_extents prepared ++ taken_by store)
    (both_some (new_extents prepared) (taken_by store) (new_some store prepared c by commit) (omega arith, by_recursion HasBytes store.named is.places.some))
    (disjoint_permuted (new_extents prepared ++ taken_by store) prepared.taken by.taken by.disjoint))) in
    record {
      side = idle_is store found last;
      first = first_is store found last;
      whole = record {
        next = record { side = commit.side ∙ idle_is store found last; above = above_is store found c.generation last commit.generation; placed = placed };
        good = commit.good;
        free = free_all found (written_pieces prepared) (subst (AllByRecursion HasBytes) (sym extents) (new_some store prepared c by commit)) apart;
        apart = pieces_apart (written_pieces prepared) (header_extent ∷ map extent_of (named_by found)) apart;
        covered = (
          inl (subst (λ (it : Piece). Among it (written_pieces prepared)) (sym body) (last_among (map piece_of (filter moves prepared.segments)) (record_piece prepared))),
          subst (λ (it : List Piece). AllByRecursion (λ (piece : Piece). Among piece (written_pieces prepared) ⊎ Among piece (named_by found)) it)
              (sym (commit.good.pieces ∙ ap (map (λ (it : StoredSegment). it.piece)) commit.segments ∙ pieces_are prepared.segments))
              (segments_covered (named_by found) (record_piece prepared ∷ []) prepared.segments
              (all_stay store found (last_good store found images keeps) is last prepared.segments by.known)),
        );
      };
      slot_is =
          ap (λ (it : Side). slot it (store.tried + 1) prepared.record_extent.at prepared.record_extent.len) (sym commit.side)
          ∙ ap (λ (it : ℕ). slot c.side it prepared.record_extent.at prepared.record_extent.len) (sym commit.generation)
          ∙ ap (λ (it : Extent). slot c.side c.generation it.at it.len) (sym commit.record_extent);
      keeps = subst (λ (it : Bool). keeping.KeepsCommit (IsGood store.limit) found it images) by.closed keeps.keeps;
    }
