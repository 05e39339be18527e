use Rattle.std.proofs.Common.{ℕ, refl, sym, ◌∙◌}
use Rattle.std.proofs.lemmas.Bool.{false≢true}
use Rattle.segment_fits.specs.Tested.{standing_at, IsShownTo}
use Rattle.segment_fits.proofs.Loops.{mark_at, marks_all, marks_more}
use Rattle.segment_fits.proofs.columns.are_marks_shown.Goals as goal

pub returns-then-not-is_shown : goal.returns-then-not-is_shown
returns-then-not-is_shown c = (
  λ no. absurd (false≢true no),
  λ all. sym c.if-not-is_shown.true ∙ c.is_shown.ensures.1 (all c.in-Some.doc c.in-Some.ensures.within.1 (mark_at c.args.set.now c.documents.from c.in-Some.doc (sym c.in-Some.ensures.value))),
)

pub documents-preserved : goal.documents-preserved
documents-preserved c =
    let P : ℕ → Type 0 = λ doc. IsShownTo c.args.shown.now.mapping.now c.args.shown.now.field (standing_at c.args.standings.now doc) in
    marks_more P c.args.set.now c.documents.from c.in-Some.doc (sym c.in-Some.ensures.value) c.documents.invariant (c.is_shown.ensures.0 c.if-not-is_shown.false)

pub returns : goal.returns
returns c =
    let P : ℕ → Type 0 = λ doc. IsShownTo c.args.shown.now.mapping.now c.args.shown.now.field (standing_at c.args.standings.now doc) in
    (λ _. marks_all P c.args.set.now c.documents.from (sym c.in_default.ensures.value) c.documents.invariant, λ _. refl)
