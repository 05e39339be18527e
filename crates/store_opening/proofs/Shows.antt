-- What was read of a store, as what its file holds and what opening gives.
use Rattle.std.proofs.Common.{◌≡◌, ◌≢◌, ℕ, zero, suc, ◌+◌, ◌<◌, ◌≤◌, ◌^◌, inl, inr, Bool, true, false, not, List, [], ◌∷◌, length, map, All, Option, None, Some, refl, sym, ◌∙◌, ap, subst, arith}
use Rattle.std.specs.List.{AllByRecursion, AllZip}
use Rattle.std.proofs.lemmas.List.Elements.{All-head, All-tail}
use Rattle.disk.specs.Stops.{IsTold, Only, Within}
use Rattle.commit_images.specs.Commits.{Finds, IsBlank}
use Rattle.commit_images.specs.Keeping.{ArePlaced, IsBehind, IsPlaced, KeepsCommit, idle}
use Rattle.commit_store.specs.Known.{IsLast, IsOfSegment, AreOfSegments, KeepsStore, StoreState}
use Rattle.commit_store.specs.Preparing.{IsCommittable}
use Rattle.commit_store.specs.declared.known.KnownSegment.{KnownSegment}
use Rattle.commit_store.specs.Saying.{StoredSegment, StoreCommit, Found, IsGood, extent_of}
use Rattle.extent_pool.specs.declared.extent.Extent.{Extent}
use Rattle.index_core.specs.Kept.{made_by}
use Rattle.mapping.specs.Mapping.{Mapping}
use Rattle.segment.specs.Live.{EntryState}
use Rattle.store_text.specs.Header.{header_size, is_open, other}
use Rattle.store_text.specs.Pieces.{Piece}
use Rattle.store_text.specs.declared.header.Side.{Side}
use Rattle.store_text.specs.declared.record.RecordText.{RecordText}
use Rattle.store_text.specs.declared.record.Row.{Row}
use Rattle.commit_store.specs.Opened.{known_by_form, known_from, store_found}
use Rattle.store_opening.specs.Blocks.{IsKnownEntry}
use Rattle.store_opening.specs.Entries.{extents_named}
use Rattle.store_opening.specs.Opening.{IsFitting, IsOpenedAs, Opens}
use Rattle.store_opening.specs.Shown.{IsCommitWhole, Shows, ShowsCommit, known_read, store_read}
use Rattle.store_opening.specs.declared.holding.CommitFound.{CommitFound}
use Rattle.store_opening.specs.declared.holding.StoreRead.{StoreRead}
use Rattle.store_opening.specs.declared.holding.StoreRead.TheVariants.{Empty, Blank, Commit}
use Rattle.store_opening.specs.declared.opened.Opened.{Opened}
use Rattle.store_opening.proofs.Led.{body_ends, few_generations}
use Rattle.store_opening.proofs.Sourced.{BlockLaws}
use Rattle.store_opening.proofs.Whole.{committable, known_below, store_of}

-- ---- a good commit is one that a slot can name

behind_pieces : (pieces : List Piece) → All (λ (extent : Extent). header_size ≤ extent.at) (map extent_of pieces) → AllByRecursion IsBehind pieces
behind_pieces [] all = tt
behind_pieces (piece ∷ pieces) all = (
  All-head (λ (extent : Extent). header_size ≤ extent.at) (extent_of piece) (map extent_of pieces) all,
  behind_pieces pieces (All-tail (λ (extent : Extent). header_size ≤ extent.at) (extent_of piece) (map extent_of pieces) all),
)

placed_by : (limit : ℕ) (file : List ℕ) (found : Option StoreCommit) → limit ≤ 2 ^ 38 → Found limit file found → ArePlaced found
placed_by limit file None few there = tt
placed_by limit file (Some c) few there = record {
  generation = few_generations c.generation there.good.last;
  end = body_ends limit c few there.good;
  behind = behind_pieces (c.body ∷ c.segments) there.good.places.behind;
}

-- ---- its store

zip_from : (id : ℕ) (segments : List StoredSegment) → AllZip IsOfSegment (known_from id segments) segments
zip_from id [] = tt
zip_from id (segment ∷ segments) = (record { extent = refl; columns = refl }, zip_from (id + 1) segments)

of_segments : (old : Bool) (segments : List StoredSegment) → AreOfSegments old (known_by_form old segments) segments
of_segments true segments = refl
of_segments false segments = zip_from 0 segments

last_of : (limit : ℕ) (found : Option StoreCommit) (closed : Bool) → IsLast (store_found limit found closed) found
last_of limit None closed = refl
last_of limit (Some c) closed = record { side = refl; named = refl; known = of_segments c.says.old c.says.segments; tried = omega arith }

limit_of : (limit : ℕ) (found : Option StoreCommit) (closed : Bool) → (store_found limit found closed).limit ≡ limit
limit_of limit None closed = refl
limit_of limit (Some c) closed = refl

closed_of : (limit : ℕ) (found : Option StoreCommit) (closed : Bool) → (store_found limit found closed).closed ≡ closed
closed_of limit None closed = refl
closed_of limit (Some c) closed = refl

keeps_of : (limit : ℕ) (found : Option StoreCommit) (closed : Bool) (images : List ℕ → Type 0) → KeepsCommit (IsGood limit) found closed images
    → KeepsStore (store_found limit found closed) found images
keeps_of limit found closed images keeps = record {
  last = last_of limit found closed;
  keeps = subst (λ (n : ℕ). KeepsCommit (IsGood n) found (store_found limit found closed).closed images) (sym (limit_of limit found closed))
      (subst (λ (b : Bool). KeepsCommit (IsGood limit) found b images) (sym (closed_of limit found closed)) keeps);
}

-- ---- all images hold it

abbrev pub KeepsLaw : Option (List ℕ) → (List ℕ → Type 0) → Type 0
KeepsLaw content images = (limit : ℕ) (found : Option StoreCommit) (file : List ℕ) → content ≡ Some file → Only content images → ArePlaced found → header_size ≤ length file
    → Found limit file found → KeepsCommit (IsGood limit) found (not (is_open (idle found) file)) images

some_is : {A : Type 0} (x y : A) → Some x ≡ Some y → x ≡ y
some_is x y e = cc (e)

-- what was opened is what the file held, which is what it holds now
pub opens_of : (limit : ℕ) (file now : List ℕ) (it : Opened) (found : Option StoreCommit) (closed : Bool) (old new : Option (List ℕ)) (before after : List ℕ → Type 0)
    → limit ≤ 2 ^ 38 → new ≡ Some now → KeepsLaw new after → (Only old before → Only new after) → Found limit file found → Found limit now found → header_size ≤ length now
    → closed ≡ not (is_open (idle found) now) → IsOpenedAs limit found closed it → Opens limit file it old new before after
opens_of limit file now it found closed old new before after few known law only held there long shut is = record {
  found = found;
  there = held;
  is = record { closed = closed; store = is.store; mapping = is.mapping; next = is.next; view = is.view };
  keeps = λ told alone.
      subst (λ (store : StoreState). KeepsStore store found after) (sym is.store)
      (keeps_of limit found closed after
      (subst (λ (b : Bool). KeepsCommit (IsGood limit) found b after) (sym shut)
      (law limit found now known (only alone) (placed_by limit now found few there) long there)));
  holds = λ told alone image stands.
      subst (λ (bytes : List ℕ). Found limit bytes found) (some_is now image (sym known ∙ only alone image stands)) there;
}

-- where calls only looked, there is no image but the one that there was
pub still_only : (old new : Option (List ℕ)) (before after : List ℕ → Type 0) → new ≡ old → Within after before → Only old before → Only new after
still_only old new before after same within only image is = same ∙ only image (within image is)

-- what was read of a file, by its form
pub shown_empty : (limit : ℕ) (file : List ℕ) (it : StoreRead) → it ≡ Empty → Shows limit file it → file ≡ []
shown_empty limit file it is shows = subst (λ (x : StoreRead). Shows limit file x) is shows

pub shown_blank : (limit : ℕ) (file : List ℕ) (it : StoreRead) → it ≡ Blank → Shows limit file it → IsBlank file
shown_blank limit file it is shows = subst (λ (x : StoreRead). Shows limit file x) is shows

pub shown_commit : (limit : ℕ) (file : List ℕ) (it : StoreRead) (found : CommitFound) → it ≡ Commit found → Shows limit file it → ShowsCommit limit found file
shown_commit limit file it found is shows = subst (λ (x : StoreRead). Shows limit file x) is shows

-- the file was told, if it is told after calls that only looked
pub told_before : (old mid : Option (List ℕ)) → (IsTold mid → mid ≡ old) → IsTold mid → IsTold old
told_before old mid same told = subst (λ (content : Option (List ℕ)). IsTold content) (same told) told

-- an empty file, of which a store was made
pub opens_empty : (limit : ℕ) (file : List ℕ) (it : Opened) (old mid new : Option (List ℕ)) (before after : List ℕ → Type 0) → limit ≤ 2 ^ 38 → old ≡ Some file → mid ≡ old → file ≡ []
    → (mid ≡ Some [] → (now : List ℕ) × (new ≡ Some now) × IsBlank now) → KeepsLaw new after → Only new after → IsOpenedAs limit None true it → Opens limit file it old new before after
opens_empty limit file it old mid new before after few known same empty made law only is =
    let blank = made (same ∙ (known ∙ ap (λ (bytes : List ℕ). Some bytes) empty)) in
    opens_of limit file blank.0 it None true old new before after few blank.1 law (λ alone. only) (inl empty) (inr blank.2) blank.2.long (sym (ap not blank.2.a_closed)) is

-- a store without a commit
pub opens_blank : (limit : ℕ) (file : List ℕ) (it : Opened) (old new : Option (List ℕ)) (before after : List ℕ → Type 0) → limit ≤ 2 ^ 38 → old ≡ Some file → new ≡ old → Within after before
    → IsBlank file → KeepsLaw new after → IsOpenedAs limit None true it → Opens limit file it old new before after
opens_blank limit file it old new before after few known same within blank law is =
    opens_of limit file file it None true old new before after few (same ∙ known) law (still_only old new before after same within) (inr blank) (inr blank) blank.long
    (sym (ap not blank.a_closed)) is

-- a store with a commit
pub opens_commit : (limit : ℕ) (file : List ℕ) (found : CommitFound) (it : Opened) (old new : Option (List ℕ)) (before after : List ℕ → Type 0) → limit ≤ 2 ^ 38 → old ≡ Some file → new ≡ old
    → Within after before → (shows : ShowsCommit limit found file) → KeepsLaw new after → IsOpenedAs limit (Some shows.commit) found.closed it → Opens limit file it old new before after
opens_commit limit file found it old new before after few known same within shows law is =
    opens_of limit file file it (Some shows.commit) found.closed old new before after few (same ∙ known) law (still_only old new before after same within) shows.finds shows.finds
    shows.finds.long (shows.shut ∙ ap (λ (side : Side). not (is_open (other side) file)) (sym shows.side)) is

pub ruleset shown = (told_before)

-- ---- what was opened

-- the store that was made of a commit
pub read_store_is : (limit : ℕ) (side : Side) (generation : ℕ) (closed : Bool) (at len : ℕ) (it : RecordText) (entries view : List EntryState) (rows : List Row) (known : List KnownSegment)
    (named : List Extent) → known ≡ known_read it.old entries rows → entries ≡ view → rows ≡ it.rows → named ≡ extents_named at len it
    → record { limit = limit; side = Some side; known = known; named = named; tried = generation; closed = closed } ≡ store_read limit side generation closed at len it view
read_store_is limit side generation closed at len it entries view rows known named known_is entries_are rows_are named_are =
    ap (λ (ks : List KnownSegment). record { limit = limit; side = Some side; known = ks; named = named; tried = generation; closed = closed })
    (known_is ∙ (ap (λ (es : List EntryState). known_read it.old es rows) entries_are ∙ ap (λ (rs : List Row). known_read it.old view rs) rows_are))
    ∙ ap (λ (es : List Extent). record { limit = limit; side = Some side; known = known_read it.old view it.rows; named = es; tried = generation; closed = closed }) named_are

pub opened_of : (limit : ℕ) (file : List ℕ) (found : CommitFound) (shows : ShowsCommit limit found file) (it : Opened)
    → it.store ≡ store_read limit found.side found.generation found.closed found.at found.len found.commit.record found.commit.view → it.mapping ≡ Some found.commit.mapping
    → it.next ≡ found.commit.record.next → it.view ≡ found.commit.view → IsOpenedAs limit (Some shows.commit) found.closed it
opened_of limit file found shows it store mapping next view = record {
  store = store
      ∙ store_of limit file found.side found.generation found.at found.len found.closed found.commit.record found.commit.mapping found.commit.view shows.commit shows.finds shows.side
      shows.generation shows.of_commit;
  mapping = mapping ∙ ap (λ (m : Mapping). Some m) (sym shows.of_commit.mapping);
  next = next ∙ sym shows.of_commit.next;
  view = view ∙ sym shows.of_commit.entries;
}

pub fitting_of : BlockLaws → (limit : ℕ) (found : CommitFound) (store : StoreState) → IsCommitWhole limit found → All IsKnownEntry found.commit.view
    → store ≡ store_read limit found.side found.generation found.closed found.at found.len found.commit.record found.commit.view
    → IsFitting limit (record { store = store; mapping = Some found.commit.mapping; next = found.commit.record.next; view = found.commit.view })
fitting_of laws limit found store whole known is = record {
  limit_is = ap (λ (s : StoreState). s.limit) is;
  under = subst (λ (s : StoreState). IsCommittable s found.commit.mapping found.commit.record.next found.commit.view) (sym is)
      (committable laws limit found.side found.generation found.at found.len found.closed found.commit.record found.commit.mapping found.commit.view known whole.said);
  below = subst (λ (s : StoreState). All (λ (it : KnownSegment). it.entry.id < made_by found.commit.view) s.known) (sym is)
      (known_below found.commit.record.old found.commit.view found.commit.record.rows);
}
