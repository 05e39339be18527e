use Rattle.std.proofs.Common.{◌≡◌, ◌<◌, ◌≤◌, ◌^◌, List, length, get_or, refl, sym, ap, subst, ◌∙◌, arith}
use Rattle.std.proofs.lemmas.Int.{ints}
use Rattle.flattener.specs.StandsFor.{EntryStandsFor}
use Rattle.segment.specs.Live.{EntryState}
use Rattle.segment_parts.specs.declared.columns.Columns.{Columns}
use Rattle.stored_sources.specs.Roots.{root_of as stored_root}
use Rattle.inner_hits.specs.Roots.{IsRootOf}
use Rattle.inner_hits.proofs.Between.{entry_at}
use Rattle.inner_hits.proofs.Numbers.{number_low, place_is}
use Rattle.inner_hits.proofs.rows.place.Goals as goal

pub overflow_cast-result : goal.overflow_cast-result
overflow_cast-result c =
    let entry = c.index-entries-entry.result in
    let root = c.root_of.result in
    let same : c.segment-segment.result.now ≡ entry.columns = c.segment-segment.ensures in
    let at = entry_at c.args.view.now c.args.hit.place c.args.hit.doc entry c.requires.doc (c.index-entries-entry.is ∙ ap (λ (l : List EntryState). get_or l c.args.hit.place entry) c.entries.ensures.entries) in
    let within : root < length entry.columns.roots = subst (λ (x : Columns). root < length x.roots) same c.root_of.ensures.within in
    let number : c.root_number.result ≡ (stored_root entry.columns.roots root).number = c.root_number.ensures ∙ ap (λ (x : Columns). (stored_root x.roots root).number) same in
    omega (arith, number_low c.requires.fits.0 c.args.view.now c.args.hit.place root entry c.requires.fits.1 at within, number)

pub returns : goal.returns
returns c =
    let entry = c.index-entries-entry.result in
    let root = c.root_of.result in
    let same : c.segment-segment.result.now ≡ entry.columns = c.segment-segment.ensures in
    let at = entry_at c.args.view.now c.args.hit.place c.args.hit.doc entry c.requires.doc (c.index-entries-entry.is ∙ ap (λ (l : List EntryState). get_or l c.args.hit.place entry) c.entries.ensures.entries) in
    let within : root < length entry.columns.roots = subst (λ (x : Columns). root < length x.roots) same c.root_of.ensures.within in
    let number : c.root_number.result ≡ (stored_root entry.columns.roots root).number = c.root_number.ensures ∙ ap (λ (x : Columns). (stored_root x.roots root).number) same in
    let small : (stored_root entry.columns.roots root).number ≤ 2 ^ 62 = number_low c.requires.fits.0 c.args.view.now c.args.hit.place root entry c.requires.fits.1 at within in
    place_is c.args.view.now c.args.at c.args.hit _ entry root at refl (omega (arith, ints, small, number))
    (λ m bits trees e. subst (λ (x : Columns). IsRootOf m x bits trees c.args.hit.doc root) same (c.root_of.ensures.root m bits trees (subst (λ (x : Columns). EntryStandsFor m x bits trees) (sym same) e)))
