use Rattle.std.proofs.Common.{◌≡◌, ℕ, List, map, slice_get, Some, sym, ap, ◌∙◌}
use Rattle.std.proofs.lemmas.List.{map-append}
use Rattle.segment_parts.specs.Lists.{terms_of}
use Rattle.segment_merge.specs.TermRefs.{ref_lent}
use Rattle.segment_merge.proofs.Refs.{refs_more}
use Rattle.segment_merge.proofs.terms.add_terms.Goals as goal

pub terms-preserved : goal.terms-preserved
terms-preserved c =
    let own : c.terms-terms.result ≡ terms_of c.args.part.now.entry.columns = c.terms-terms.ensures ∙ ap terms_of c.segment.ensures.segment in
    let is : slice_get (terms_of c.args.part.now.entry.columns) c.terms.ordinal ≡ Some (c.term.result.0, c.term.result.1.now) =
    ap (λ (terms : List (ℕ × List ℕ)). slice_get terms c.terms.ordinal) (sym own) ∙ c.term.ensures in
    refs_more c.args.part.now c.args.place c.terms.ordinal (terms_of c.args.part.now.entry.columns) (c.term.result.0, c.term.result.1.now) (map ref_lent c.terms.into.items) (map ref_lent c.push.new.self.items) _ is
    (ap (map ref_lent) c.in_ok-push.ensures.items ∙ map-append ref_lent c.terms.into.items _) c.terms.invariant
