use Rattle.std.proofs.Common.{◌≡◌, List, Some, length, All, refl, sym, ◌∙◌, subst, arith}
use Rattle.commit_store.specs.Known.{IsStore, StoreState}
use Rattle.segment.specs.Live.{EntryState}
use Rattle.store_opening.specs.Blocks.{IsKnownEntry}
use Rattle.store_opening.specs.Entries.{IsEntryOf}
use Rattle.store_opening.specs.Shown.{store_read}
use Rattle.store_opening.proofs.Numbered.{numbered_many}
use Rattle.store_opening.proofs.Shows.{fitting_of, opened_of, read_store_is}
use Rattle.store_opening.proofs.Whole.{store_is}
use Rattle.store_opening.proofs.opening.with_commit.Goals as goal

pub known_by-requires : goal.known_by-requires
known_by-requires c =
    let commit = c.args.found.commit in
    let many : length commit.view ≡ length commit.record.rows
    = numbered_many (IsEntryOf commit.mapping commit.record.old) 0 commit.record.rows commit.view c.requires.whole.said.entries in
    grind (arith, c.entries-2.ensures.entries, c.view.view_is, c.as_slice.ensures, many)

pub over-requires : goal.over-requires
over-requires c =
    let found = c.args.found in
    let commit = found.commit in
    let viewed : c.entries-2.result.now ≡ commit.view = grind (arith, c.entries-2.ensures.entries, c.view.view_is) in
    subst (λ (store : StoreState). IsStore store)
    (sym (read_store_is c.args.limit found.side found.generation found.closed found.at found.len commit.record c.entries-2.result.now commit.view c.as_slice.result.now
    c.in_ok-known.known.items commit.named.extents c.in_ok-known.ensures viewed c.as_slice.ensures c.requires.whole.named))
    (store_is c.args.limit found.side found.generation found.at found.len found.closed commit.record commit.mapping commit.view c.requires.limit c.requires.whole.last
    c.entries.ensures.ids c.requires.whole.said)

pub returns-clause-opened : goal.returns-clause-opened
returns-clause-opened c = λ file shows.
    let found = c.args.found in
    let commit = found.commit in
    let viewed : c.entries-2.result.now ≡ commit.view = grind (arith, c.entries-2.ensures.entries, c.view.view_is) in
    opened_of c.args.limit file found shows (record { store = c.over.result; mapping = Some commit.mapping; next = commit.record.next; view = commit.view })
    (c.over.ensures
    ∙ read_store_is c.args.limit found.side found.generation found.closed found.at found.len commit.record c.entries-2.result.now commit.view c.as_slice.result.now
    c.in_ok-known.known.items commit.named.extents c.in_ok-known.ensures viewed c.as_slice.ensures c.requires.whole.named)
    refl refl refl

pub returns-clause-fits : goal.returns-clause-fits
returns-clause-fits c =
    let found = c.args.found in
    let commit = found.commit in
    let viewed : c.entries-2.result.now ≡ commit.view = grind (arith, c.entries-2.ensures.entries, c.view.view_is) in
    fitting_of (record { roots = c.fitting_segments_are_blocks.ensures.roots; same = c.fitting_segments_are_blocks.ensures.same }) c.args.limit found c.over.result c.requires.whole
    (subst (λ (entries : List EntryState). All IsKnownEntry entries) c.entries.ensures.entries c.entries_are_known.ensures)
    (c.over.ensures
    ∙ read_store_is c.args.limit found.side found.generation found.closed found.at found.len commit.record c.entries-2.result.now commit.view c.as_slice.result.now
    c.in_ok-known.known.items commit.named.extents c.in_ok-known.ensures viewed c.as_slice.ensures c.requires.whole.named)
