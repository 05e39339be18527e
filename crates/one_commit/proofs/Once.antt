-- A record tells the marks of the roots that are live, and the bytes at the places that it names tell the segments.
use Rattle.std.proofs.Common.{◌≡◌, ℕ, ◌+◌, ◌≤◌, Bool, true, false, List, [], ◌∷◌, length, map, take, drop, refl, sym, ◌∙◌, ap, subst, arith}
use Rattle.std.specs.List.{AllByRecursion}
use Rattle.mapping.specs.Mapping.{Mapping}
use Rattle.segment.specs.Encoding.{IsEncoding}
use Rattle.segment_parts.specs.Heads.{OneSet}
use Rattle.segment_parts.specs.Whole.{segment_once}
use Rattle.segment_parts.specs.declared.columns.Columns.{Columns}
use Rattle.store_text.specs.Pieces.{Piece, Stands, AllStand}
use Rattle.store_text.specs.declared.record.Row.{Row}
use Rattle.commit_store.specs.Saying.{StoredSegment, IsSegmentOf, dead_from, dead_of, row_of}

-- ---- marks

weaker : (index : ℕ) (indexes : List ℕ) → AllByRecursion (λ (i : ℕ). index + 1 ≤ i) indexes → AllByRecursion (λ (i : ℕ). index ≤ i) indexes
weaker index [] all = tt
weaker index (i ∷ indexes) all = (omega (arith, all.0), weaker index indexes all.1)

dead_above : (index : ℕ) (live : List Bool) → AllByRecursion (λ (i : ℕ). index ≤ i) (dead_from index live)
dead_above index [] = tt
dead_above index (true ∷ live) = weaker index (dead_from (index + 1) live) (dead_above (index + 1) live)
dead_above index (false ∷ live) = (omega arith, weaker index (dead_from (index + 1) live) (dead_above (index + 1) live))

not_here : (index : ℕ) (live more : List Bool) → dead_from (index + 1) live ≡ index ∷ dead_from (index + 1) more → ⊥
not_here index live more same =
    let above : AllByRecursion (λ (i : ℕ). index + 1 ≤ i) (index ∷ dead_from (index + 1) more)
    = subst (λ (it : List ℕ). AllByRecursion (λ (i : ℕ). index + 1 ≤ i) it) same (dead_above (index + 1) live) in
    omega (arith, above.0)

tail_of : (one other : ℕ) (ones others : List ℕ) → one ∷ ones ≡ other ∷ others → ones ≡ others
tail_of one other ones others same = ap (drop 1) same

same_marks_from : (index : ℕ) (one other : List Bool) → length one ≡ length other → dead_from index one ≡ dead_from index other → one ≡ other
same_marks_from index [] [] long same = refl
same_marks_from index [] (mark ∷ other) long same = absurd (omega (arith, long))
same_marks_from index (mark ∷ one) [] long same = absurd (omega (arith, long))
same_marks_from index (true ∷ one) (true ∷ other) long same = ap (λ (it : List Bool). true ∷ it) (same_marks_from (index + 1) one other (omega (arith, long)) same)
same_marks_from index (false ∷ one) (false ∷ other) long same =
    ap (λ (it : List Bool). false ∷ it)
    (same_marks_from (index + 1) one other (omega (arith, long)) (tail_of index index (dead_from (index + 1) one) (dead_from (index + 1) other) same))
same_marks_from index (true ∷ one) (false ∷ other) long same = absurd (not_here index one other same)
same_marks_from index (false ∷ one) (true ∷ other) long same = absurd (not_here index other one (sym same))

pub same_marks : (one other : List Bool) → length one ≡ length other → dead_of one ≡ dead_of other → one ≡ other
same_marks one other long same = same_marks_from 0 one other long same

-- ---- segments

pub new_once : OneSet → (one other : Columns) (bytes : List ℕ) → IsEncoding one bytes → IsEncoding other bytes → one ≡ other
new_once one_set one other bytes is are = segment_once one_set one other is.are.parts are.are.parts (sym is.text ∙ are.text)

pieces_once : (one other : Piece) (file : List ℕ) → one.at ≡ other.at → length one.bytes ≡ length other.bytes → Stands file one → Stands file other → one ≡ other
pieces_once one other file at long stands others =
    let bytes : one.bytes ≡ other.bytes
    = sym stands ∙ ap (λ (n : ℕ). take n (drop one.at file)) long ∙ ap (λ (n : ℕ). take (length other.bytes) (drop n file)) at ∙ others in
    ap (λ (n : ℕ). record { at = n; bytes = one.bytes }) at ∙ ap (λ (it : List ℕ). record { at = other.at; bytes = it }) bytes

abbrev first_row : Row → List Row → Row
first_row none [] = none
first_row none (row ∷ rows) = row

-- segments that stand at the same places, with the same dead roots, are the same
pub same_segments : (m n : Mapping) (IsForm : StoredSegment → Type 0) (file : List ℕ)
    → ((one other : StoredSegment) → IsForm one → IsForm other → one.piece ≡ other.piece → one.columns ≡ other.columns)
    → (ones others : List StoredSegment) → AllByRecursion IsForm ones → AllByRecursion IsForm others
    → AllByRecursion (IsSegmentOf m) ones → AllByRecursion (IsSegmentOf n) others
    → AllStand (map (λ (it : StoredSegment). it.piece) ones) file → AllStand (map (λ (it : StoredSegment). it.piece) others) file
    → map row_of ones ≡ map row_of others → ones ≡ others
same_segments m n IsForm file once [] [] form forms is are stand stands same = refl
same_segments m n IsForm file once [] (other ∷ others) form forms is are stand stands same = absurd (omega (arith, ap length same))
same_segments m n IsForm file once (one ∷ ones) [] form forms is are stand stands same = absurd (omega (arith, ap length same))
same_segments m n IsForm file once (one ∷ ones) (other ∷ others) form forms is are stand stands same =
    let row : row_of one ≡ row_of other = ap (first_row (row_of one)) same in
    let piece : one.piece ≡ other.piece
    = pieces_once one.piece other.piece file (ap (λ (it : Row). it.at) row) (ap (λ (it : Row). it.len) row) stand.0 stands.0 in
    let columns : one.columns ≡ other.columns = once one other form.0 forms.0 piece in
    let live : one.live ≡ other.live
    = same_marks one.live other.live (is.0.marks ∙ ap (λ (it : Columns). length it.roots) columns ∙ sym are.0.marks) (ap (λ (it : Row). it.dead) row) in
    let first : one ≡ other
    = ap (λ (it : Piece). record { piece = it; columns = one.columns; live = one.live }) piece
    ∙ ap (λ (it : Columns). record { piece = other.piece; columns = it; live = one.live }) columns
    ∙ ap (λ (it : List Bool). record { piece = other.piece; columns = other.columns; live = it }) live in
    ap (λ (it : StoredSegment). it ∷ ones) first
    ∙ ap (λ (it : List StoredSegment). other ∷ it)
    (same_segments m n IsForm file once ones others form.1 forms.1 is.1 are.1 stand.1 stands.1 (ap (drop 1) same))
