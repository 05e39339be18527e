-- What a store knows once a file was opened.
use Rattle.std.specs.Prelude.{ℕ, ◌+◌, Bool, true, false, List, [], ◌∷◌, Option, None, Some}
use Rattle.commit_store.specs.declared.known.KnownSegment.{KnownSegment}
use Rattle.commit_store.specs.Saying.{StoredSegment, StoreCommit, extent_of, extents_of, live_by}
use Rattle.commit_store.specs.Known.{StoreState}

-- the segments of a commit, with ids from a number on
abbrev pub known_from : ℕ → List StoredSegment → List KnownSegment
known_from id [] = []
known_from id (segment ∷ segments) =
    record { entry = record { id = id; columns = segment.columns; live = live_by segment.columns segment.live }; extent = extent_of segment.piece }
    ∷ known_from (id + 1) segments

-- of a commit of the older form none is known
abbrev pub known_by_form : Bool → List StoredSegment → List KnownSegment
known_by_form true segments = []
known_by_form false segments = known_from 0 segments

abbrev pub known_in : StoreCommit → List KnownSegment
known_in c = known_by_form c.says.old c.says.segments

-- the store of at most so many bytes whose last commit was found, or none; `closed` says whether its idle gate is known to be
-- closed
abbrev pub store_found : ℕ → Option StoreCommit → Bool → StoreState
store_found limit None closed = record { limit = limit; side = None; known = []; named = []; tried = 0; closed = closed }
store_found limit (Some c) closed = record { limit = limit; side = Some c.side; known = known_in c; named = extents_of c; tried = c.generation; closed = closed }
