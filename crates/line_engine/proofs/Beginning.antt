-- How a session begins, or why none does.
use Rattle.std.proofs.Common.{◌≡◌, ◌≢◌, ◌≤◌, ◌+◌, ℕ, min, true, List, [], Option, Some, None, refl, sym, ap, subst, ◌∙◌, inl, inr, ⊎_elim, arith}
use Rattle.std.proofs.lemmas.Bool.{false≢true}
use Rattle.std.specs.Io.KnownBytes.{Keeps}
use Rattle.commit_store.specs.Saying.{Found, StoreCommit}
use Rattle.disk.specs.Moments.{passes_none}
use Rattle.disk.specs.Stops.{IsTold, Only}
use Rattle.engine.specs.Found.{opened_engine}
use Rattle.engine.specs.Kept.{EngineState}
use Rattle.index_trees.specs.Content.{IsContentOf, OpensTo}
use Rattle.index_trees.specs.Given.{IsOpenedAs}
use Rattle.index_trees.specs.Starting.{Starts, StartsFrom}
use Rattle.io_edges.specs.Faults.{Rose, greatest_count}
use Rattle.line_reader.specs.Given.{HasGiven}
use Rattle.line_reader.specs.Seen.{InputState}
use Rattle.machine.specs.State.{State}
use Rattle.machine.specs.declared.limits.Limits.{Limits}
use Rattle.store_opening.specs.Beginning.{IsOther}
use Rattle.store_opening.specs.Looking.{IsCausedBy, Looked}
use Rattle.store_opening.specs.Opening.{IsFitting, IsLeftBy, IsOpened, Opens}
use Rattle.store_opening.specs.declared.opened.Opened.{Opened}
use Rattle.store_opening.specs.declared.refusal.OpenRefusal.{OpenRefusal}
use Rattle.store_opening.specs.declared.refusal.OpenRefusal.TheVariants as why
use Rattle.store_text.specs.Header.{magic}
use Rattle.store_text.specs.Pieces.{Stands}
use Rattle.line_engine.specs.Exit.{status_unopened}
use Rattle.line_engine.specs.Run.{Counts, FailsAtNew, HasRead, HasWritten, IsCaused, IsFileFor, IsStored, LeavesStore, Serves, has_begun}
use Rattle.line_engine.specs.Served.{IsUnbegun, IsUpTo, KeepsStored, Served}
use Rattle.line_engine.specs.Stopping.{DiskState}
use Rattle.line_engine.specs.declared.status.Status.{Status}
use Rattle.line_engine.specs.declared.status.Status.TheVariants.{Done, BadWords, ReadFault, WriteFault, DiskFault, NotAStore, Damaged, SessionLimit, NoMemory}
use Rattle.line_engine.proofs.Laws.{HoldsOne, OpensTrees}
use Rattle.line_engine.proofs.Stopping.{IsTimed, one_start, stores_start}
use Rattle.line_engine.proofs.Writing.{appends_none}

pub keeps_same : (bytes : Option (List ℕ)) → Keeps bytes bytes
keeps_same None = tt
keeps_same (Some bytes) = refl

-- ## the file at the start

-- where it may be opened in a state, the disk tells its bytes
pub record StartsAt (limit : ℕ) (content : Option (List ℕ)) (start : State) : Type 0 where
  pub file : List ℕ
  pub is : content ≡ Some file
  pub starts : StartsFrom limit file start

starts_at : (limit : ℕ) (content : Option (List ℕ)) (start : State) → Starts limit content start → StartsAt limit content start
starts_at limit None start starts = absurd starts
starts_at limit (Some file) start starts = record { file = file; is = refl; starts = starts }

opens_start : (limit : ℕ) (start : State) (disk : DiskState) (file : List ℕ) → OpensTrees limit → Starts limit disk.content start → disk.content ≡ Some file → OpensTo limit start.content file
opens_start limit start disk file laws starts is = laws.starts file start (subst (λ (content : Option (List ℕ)). Starts limit content start) is starts)

-- ## where the disk was only looked at

abbrev pub LooksOn : DiskState → DiskState → Type 0
LooksOn disk disk' = Looked disk.content disk'.content disk.image disk'.image disk.moment disk'.moment disk.since disk'.since

pub looks_none : (disk : DiskState) → LooksOn disk disk
looks_none disk = record {
  content = λ told. refl;
  images = λ file is. is;
  allowed = λ told file is. is;
  time = passes_none disk.moment disk.since disk.image;
  lasts = λ told moment file before was. was;
}

leaves_looked : (limit : ℕ) (start : State) (disk disk' : DiskState) → OpensTrees limit → IsTimed disk → Starts limit disk.content start → Only disk.content disk.image → LooksOn disk disk'
    → LeavesStore limit start [] disk disk'
leaves_looked limit start disk disk' laws time starts only looked =
    let each : (file : List ℕ) → disk.image file → OpensTo limit start.content file = λ file is. opens_start limit start disk file laws starts (only file is) in
    record {
      opened = disk.moment;
      within = omega arith;
      stores = record {
        later = looked.time.later;
        ever = λ file was. one_start limit start file (each file (⊎_elim (λ past. time.only file past) (λ is. is) (looked.time.only disk.moment file (omega arith) was)));
        last = λ file is. one_start limit start file (each file (looked.images file is));
      };
    }

-- ## where no session begins

no_failures : (before after most : ℕ) → before ≤ after → min (before + 0) most ≤ after
no_failures before after most later = grind arith

rose_later : (before after : ℕ) → Rose before after → before ≤ after
rose_later before after (inl rose) = omega (arith, rose)
rose_later before after (inr stood) = omega (arith, stood.0, stood.1)

-- nothing was read and nothing was written
serves_none : (status : Status) (limits : Limits) (start : State) (left taken : Option (List ℕ)) (disk disk' : DiskState) → HasRead status limits.session_bytes left left [] → HasWritten status taken taken []
    → disk.faults ≤ disk'.faults → (IsTold disk'.content → Only disk.content disk.image → (FailsAtNew status disk → ⊥) → LeavesStore limits.store_bytes start [] disk disk')
    → Serves status limits start left left taken taken disk disk'
serves_none status limits start left taken disk disk' reads writes faults leaves = record {
  requests = [];
  turns = [];
  run = record { chain = tt; asked = refl };
  reads = reads;
  writes = writes;
  stores = leaves;
  failures = no_failures disk.faults disk'.faults greatest_count faults;
}

-- before the store is opened memory is wanted
pub serves_unmade : (limits : Limits) (start : State) (left taken : Option (List ℕ)) (disk : DiskState) → OpensTrees limits.store_bytes → IsTimed disk → Starts limits.store_bytes disk.content start
    → Serves NoMemory limits start left left taken taken disk disk
serves_unmade limits start left taken disk laws time starts =
    serves_none NoMemory limits start left taken disk disk (refl, keeps_same left) (keeps_same taken) (omega arith)
    (λ told only new. leaves_looked limits.store_bytes start disk disk laws time starts only (looks_none disk))

not_other : (limit : ℕ) (file : List ℕ) (found : Option StoreCommit) → Found limit file found → IsOther file → ⊥
not_other limit file None (inl empty) other = other.some empty
not_other limit file None (inr blank) other = other.magic_lacks blank.stands
not_other limit file (Some c) finds other = other.magic_lacks finds.stand.0

-- what is so where the store isn't opened
pub record IsUnopened (limit : ℕ) (it : OpenRefusal) (disk disk' : DiskState) : Type 0 where
  pub cause : IsCausedBy disk.faults disk'.faults it
  pub left : IsLeftBy (LooksOn disk disk') it
  pub looked : (file : List ℕ) → disk.content ≡ Some file → file ≢ [] → LooksOn disk disk'
  pub other : it ≡ why.NotAStore → (file : List ℕ) → disk.content ≡ Some file → IsOther file
  pub damaged : it ≡ why.Damaged → (file : List ℕ) → disk.content ≡ Some file → Stands file magic × ((found : Option StoreCommit) → Found limit file found → ⊥)

pub serves_unopened : (it : OpenRefusal) (limits : Limits) (start : State) (left taken : Option (List ℕ)) (disk disk' : DiskState) → OpensTrees limits.store_bytes → IsTimed disk
    → Starts limits.store_bytes disk.content start → IsUnopened limits.store_bytes it disk disk' → Serves (status_unopened it) limits start left left taken taken disk disk'
serves_unopened why.DiskFault limits start left taken disk disk' laws time starts unopened =
    serves_none DiskFault limits start left taken disk disk' (refl, keeps_same left) (keeps_same taken) (rose_later disk.faults disk'.faults unopened.cause) (λ told only new.
    let at : StartsAt limits.store_bytes disk.content start = starts_at limits.store_bytes disk.content start starts in
    leaves_looked limits.store_bytes start disk disk' laws time starts only (unopened.looked at.file at.is (λ empty. new (refl, at.is ∙ ap (λ (bytes : List ℕ). Some bytes) empty))))
serves_unopened why.NotAStore limits start left taken disk disk' laws time starts unopened =
    let at : StartsAt limits.store_bytes disk.content start = starts_at limits.store_bytes disk.content start starts in
    absurd (not_other limits.store_bytes at.file at.starts.found at.starts.holds (unopened.other refl at.file at.is))
serves_unopened why.Damaged limits start left taken disk disk' laws time starts unopened =
    let at : StartsAt limits.store_bytes disk.content start = starts_at limits.store_bytes disk.content start starts in
    absurd ((unopened.damaged refl at.file at.is).1 at.starts.found at.starts.holds)
serves_unopened why.NoMemory limits start left taken disk disk' laws time starts unopened =
    serves_none NoMemory limits start left taken disk disk' (refl, keeps_same left) (keeps_same taken) (let same : disk'.faults ≡ disk.faults = unopened.cause in omega (arith, same))
    (λ told only new. leaves_looked limits.store_bytes start disk disk' laws time starts only unopened.left)

-- what the file is then
pub file_unopened : (it : OpenRefusal) (limit : ℕ) (file : List ℕ) (disk disk' : DiskState) → IsUnopened limit it disk disk' → disk.content ≡ Some file → IsFileFor (status_unopened it) limit file
file_unopened why.DiskFault limit file disk disk' unopened is = tt
file_unopened why.NotAStore limit file disk disk' unopened is = unopened.other refl file is
file_unopened why.Damaged limit file disk disk' unopened is =
    let both : Stands file magic × ((found : Option StoreCommit) → Found limit file found → ⊥) = unopened.damaged refl file is in
    record { begins = both.0; none = both.1 }
file_unopened why.NoMemory limit file disk disk' unopened is = tt

pub cause_unopened : (it : OpenRefusal) (faults faults' : ℕ) → IsCausedBy faults faults' it → IsUnbegun (status_unopened it) faults faults'
cause_unopened why.DiskFault faults faults' cause = cause
cause_unopened why.NotAStore faults faults' cause = cause
cause_unopened why.Damaged faults faults' cause = cause
cause_unopened why.NoMemory faults faults' cause = cause

-- ## where the store is opened

-- what was opened, and what that leaves of the disk
pub record HasOpened (limit : ℕ) (it : Opened) (disk disk' : DiskState) : Type 0 where
  pub fits : IsFitting limit it
  pub opens : (file : List ℕ) → disk.content ≡ Some file → Opens limit file it disk.content disk'.content disk.image disk'.image
  pub later : disk.moment ≤ disk'.moment
  pub same : disk'.faults ≡ disk.faults

kept_start : (limit : ℕ) (start : State) (it : Opened) (disk disk' : DiskState) → OpensTrees limit → HoldsOne limit → IsTimed disk' → Starts limit disk.content start → HasOpened limit it disk disk'
    → IsTold disk'.content → Only disk.content disk.image → KeepsStored limit start [] it.store disk disk'
kept_start limit start it disk disk' laws once time starts opened told only =
    let at : StartsAt limit disk.content start = starts_at limit disk.content start starts in
    let opens : Opens limit at.file it disk.content disk'.content disk.image disk'.image = opened.opens at.file at.is in
    let own : OpensTo limit start.content at.file = laws.starts at.file start at.starts in
    let is : IsContentOf opens.found start.content =
    subst (λ (found : Option StoreCommit). IsContentOf found start.content) (once at.file own.found opens.found own.holds opens.there) own.is in
    record {
      found = opens.found;
      keeps = opens.keeps told only;
      opened = disk'.moment;
      within = opened.later;
      stores = stores_start limit start disk' time (λ file image. record { found = opens.found; holds = opens.holds told only file image; is = is });
    }

as_opened : (limit : ℕ) (found : Option StoreCommit) (it : Opened) → IsOpened limit found it → IsOpenedAs limit found it.store it.mapping it.next it.view
as_opened limit found it is = record { closed = is.closed; store_is = is.store; mapping_is = is.mapping; next_is = is.next; view_is = is.view }

pub stands_start : (limits : Limits) (start : State) (it : Opened) (disk disk' : DiskState) → OpensTrees limits.store_bytes → HoldsOne limits.store_bytes → IsTimed disk'
    → Starts limits.store_bytes disk.content start → HasOpened limits.store_bytes it disk disk' → IsUpTo limits start [] (opened_engine limits it.store it.mapping it.next it.view) disk disk'
stands_start limits start it disk disk' laws once time starts opened =
    let at : StartsAt limits.store_bytes disk.content start = starts_at limits.store_bytes disk.content start starts in
    let opens : Opens limits.store_bytes at.file it disk.content disk'.content disk.image disk'.image = opened.opens at.file at.is in
    let is : IsOpened limits.store_bytes at.starts.found it =
    subst (λ (found : Option StoreCommit). IsOpened limits.store_bytes found it) (once at.file opens.found at.starts.found opens.there at.starts.holds) opens.is in
    record {
      faithful = laws.faithful limits.objects at.starts.found it.store it.mapping it.next it.view start (laws.good at.file at.starts.found at.starts.holds)
          (as_opened limits.store_bytes at.starts.found it is) at.starts.opens;
      within = refl;
      limit = opened.fits.limit_is;
      stored = λ told only. kept_start limits.store_bytes start it disk disk' laws once time starts opened told only;
      failures = no_failures disk.faults disk'.faults greatest_count (let same : disk'.faults ≡ disk.faults = opened.same in omega (arith, same));
    }

-- and there is no memory for the engine
pub serves_opened : (limits : Limits) (start : State) (left taken : Option (List ℕ)) (it : Opened) (disk disk' : DiskState) → OpensTrees limits.store_bytes → HoldsOne limits.store_bytes → IsTimed disk'
    → Starts limits.store_bytes disk.content start → HasOpened limits.store_bytes it disk disk' → Serves NoMemory limits start left left taken taken disk disk'
serves_opened limits start left taken it disk disk' laws once time starts opened =
    serves_none NoMemory limits start left taken disk disk' (refl, keeps_same left) (keeps_same taken) (let same : disk'.faults ≡ disk.faults = opened.same in omega (arith, same)) (λ told only new.
    let kept : KeepsStored limits.store_bytes start [] it.store disk disk' = kept_start limits.store_bytes start it disk disk' laws once time starts opened told only in
    record { opened = kept.opened; within = kept.within; stores = kept.stores })

pub stored_opened : (limit : ℕ) (it : Opened) (disk disk' : DiskState) (file : List ℕ) → HasOpened limit it disk disk' → disk.content ≡ Some file → IsStored limit file
stored_opened limit it disk disk' file opened is = record { found = (opened.opens file is).found; holds = (opened.opens file is).there }

-- nothing is given yet, and nothing answered
pub served_start : (limits : Limits) (start : State) (left taken : Option (List ℕ)) (disk disk' : DiskState) (input : InputState) (engine : EngineState) → HasGiven limits.session_bytes left left input []
    → IsUpTo limits start [] engine disk disk' → Served limits start left left taken taken disk disk' input engine
served_start limits start left taken disk disk' input engine given stands = record { turns = []; given = given; chain = tt; stands = stands; written = appends_none taken }

-- ## the whole

pub file_begun : (status : Status) (limit : ℕ) (file : List ℕ) → has_begun status ≡ true → IsStored limit file → IsFileFor status limit file
file_begun Done limit file begun stored = stored
file_begun BadWords limit file begun stored = absurd (false≢true begun)
file_begun ReadFault limit file begun stored = stored
file_begun WriteFault limit file begun stored = stored
file_begun DiskFault limit file begun stored = absurd (false≢true begun)
file_begun NotAStore limit file begun stored = absurd (false≢true begun)
file_begun Damaged limit file begun stored = absurd (false≢true begun)
file_begun SessionLimit limit file begun stored = stored
file_begun NoMemory limit file begun stored = absurd (false≢true begun)

abbrev pub counts_of : ℕ → ℕ → ℕ → Counts
counts_of source sink disk = record { source = source; sink = sink; disk = disk }

pub cause_unbegun : (status : Status) (source sink faults faults' : ℕ) → IsUnbegun status faults faults' → IsCaused status (record { source = source; sink = sink; disk = faults }) (record { source = source; sink = sink; disk = faults' })
cause_unbegun Done source sink faults faults' cause = absurd cause
cause_unbegun BadWords source sink faults faults' cause = absurd cause
cause_unbegun ReadFault source sink faults faults' cause = absurd cause
cause_unbegun WriteFault source sink faults faults' cause = absurd cause
cause_unbegun DiskFault source sink faults faults' cause = (cause, refl, refl)
cause_unbegun NotAStore source sink faults faults' cause = ap (λ (disk : ℕ). counts_of source sink disk) cause
cause_unbegun Damaged source sink faults faults' cause = ap (λ (disk : ℕ). counts_of source sink disk) cause
cause_unbegun SessionLimit source sink faults faults' cause = absurd cause
cause_unbegun NoMemory source sink faults faults' cause = ap (λ (disk : ℕ). counts_of source sink disk) cause

-- only the disk's count of faults may have changed before
pub cause_begun : (status : Status) (source sink faults faults' : ℕ) (after : Counts) → has_begun status ≡ true → faults' ≡ faults
    → IsCaused status (counts_of source sink faults') after → IsCaused status (counts_of source sink faults) after
cause_begun status source sink faults faults' after begun same cause = subst (λ (disk : ℕ). IsCaused status (counts_of source sink disk) after) same cause

-- the words are none that the program knows only where none was begun
pub not_begun : (status : Status) → has_begun status ≡ true → status ≡ BadWords → ⊥
not_begun status begun bad = false≢true (sym (ap has_begun bad) ∙ begun)

pub not_unbegun : (status : Status) (faults faults' : ℕ) → IsUnbegun status faults faults' → status ≡ BadWords → ⊥
not_unbegun status faults faults' cause bad = subst (λ (it : Status). IsUnbegun it faults faults') bad cause
