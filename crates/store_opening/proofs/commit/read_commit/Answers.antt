use Rattle.std.proofs.Common.{◌≡◌, ℕ, ◌<◌, List, [], length, sym, ◌∙◌, subst, arith}
use Rattle.index_core.specs.Kept.{AreBlocks, laid, made_by}
use Rattle.segment.specs.Live.{EntryState}
use Rattle.store_text.specs.declared.record.Row.{Row}
use Rattle.store_opening.specs.Entries.{AreNumbered, IsEntryOf, StandsFor}
use Rattle.store_opening.proofs.Refusing.{made_below, no_blocks, no_entries}
use Rattle.store_opening.proofs.commit.read_commit.Goals as goal

pub returns-in_err-record-clause-damaged : goal.returns-in_err-record-clause-damaged
returns-in_err-record-clause-damaged g c = λ refused file it m view known said stands.
    c.read_said.ensures.damaged (grind (arith, refused, c.from_residual.ensures, c.in_err-record.was)) file it m known said.head stands.record_stands

pub returns-in_err-view-clause-damaged : goal.returns-in_err-view-clause-damaged
returns-in_err-view-clause-damaged g c = λ refused file it n view known said stands.
    let own = c.in_ok-record.field-0.record in
    let m = c.in_ok-record.field-0.mapping in
    no_entries c.record_has_one_text.ensures.once c.args.limit file c.args.at c.args.len own m (c.in_ok-record.ensures.stands file known) c.in_ok-record.ensures.head
    (λ theirs are stand.
    c.read_entries.ensures.damaged (grind (arith, refused, c.from_residual-in_err-view.ensures, c.in_err-view.was)) file theirs (c.in_ok-record.ensures.content ∙ known)
    (subst (λ (rows : List Row). AreNumbered (IsEntryOf m own.old) 0 rows theirs) (sym c.as_slice.ensures) are)
    (subst (λ (rows : List Row). AreNumbered (StandsFor own.old (length m.scopes) file) 0 rows theirs) (sym c.as_slice.ensures) stand))
    it n view said stands

pub returns-then-not-branch-clause-damaged : goal.returns-then-not-branch-clause-damaged
returns-then-not-branch-clause-damaged g c = λ refused file it n view known said stands.
    let own = c.in_ok-record.field-0.record in
    let m = c.in_ok-record.field-0.mapping in
    let mine = c.in_ok-view.view in
    let are : AreNumbered (IsEntryOf m own.old) 0 own.rows mine
    = subst (λ (rows : List Row). AreNumbered (IsEntryOf m own.old) 0 rows mine) c.as_slice.ensures c.in_ok-view.ensures.are in
    let stand : AreNumbered (StandsFor own.old (length m.scopes) file) 0 own.rows mine
    = subst (λ (rows : List Row). AreNumbered (StandsFor own.old (length m.scopes) file) 0 rows mine) c.as_slice.ensures
    (c.in_ok-view.ensures.stand file (c.in_ok-record.ensures.content ∙ known)) in
    let below = made_below c.args.limit c.args.at c.args.len own m mine c.in_ok-record.ensures.head are in
    no_blocks c.record_has_one_text.ensures.once c.columns_are_read_once.ensures c.args.limit file c.args.at c.args.len own m mine (c.in_ok-record.ensures.stands file known)
    c.in_ok-record.ensures.head are stand
    (λ blocks.
    let true = (c.in_ok-are_blocks.ensures (made_by mine) below).1
    (subst (λ (es : List EntryState). AreBlocks (laid es [] (made_by mine)) own.next) (sym c.entries.ensures.entries) blocks) in
    grind (arith, true, c.if-not-branch.true))
    it n view said stands

pub returns-clause-said : goal.returns-clause-said
returns-clause-said g c =
    let own = c.in_ok-record.field-0.record in
    let m = c.in_ok-record.field-0.mapping in
    let mine = c.in_ok-view.view in
    let are : AreNumbered (IsEntryOf m own.old) 0 own.rows mine
    = subst (λ (rows : List Row). AreNumbered (IsEntryOf m own.old) 0 rows mine) c.as_slice.ensures c.in_ok-view.ensures.are in
    let below = made_below c.args.limit c.args.at c.args.len own m mine c.in_ok-record.ensures.head are in
    record {
      head = c.in_ok-record.ensures.head;
      entries = are;
      blocks = subst (λ (es : List EntryState). AreBlocks (laid es [] (made_by mine)) own.next) c.entries.ensures.entries
          ((c.in_ok-are_blocks.ensures (made_by mine) below).0 c.if-not-branch.false);
    }

pub returns-clause-stands : goal.returns-clause-stands
returns-clause-stands g c = λ file known.
    let own = c.in_ok-record.field-0.record in
    let m = c.in_ok-record.field-0.mapping in
    record {
      record_stands = c.in_ok-record.ensures.stands file known;
      segments = subst (λ (rows : List Row). AreNumbered (StandsFor own.old (length m.scopes) file) 0 rows c.in_ok-view.view) c.as_slice.ensures
          (c.in_ok-view.ensures.stand file (c.in_ok-record.ensures.content ∙ known));
    }
