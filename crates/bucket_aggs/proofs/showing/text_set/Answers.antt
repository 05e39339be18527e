use Rattle.std.specs.Prelude.{Contains}
use Rattle.std.proofs.Common.{◌≡◌, Bool, false, List, Some, length, slice_get, get_or, refl, sym, ap, subst, ◌∙◌}
use Rattle.std.proofs.lemmas.List.{length-replicate}
use Rattle.std.proofs.lemmas.Option.{slice_get_within}
use Rattle.segment_parts.specs.Fields.{column_of}
use Rattle.segment_parts.specs.Lists.{terms_of}
use Rattle.segment_parts.specs.declared.columns.Columns.{Columns}
use Rattle.term_table.specs.Terms.{AreAscending}
use Rattle.tree_objects.specs.declared.field_value.FieldValue.TheVariants.{Written}
use Rattle.bucket_aggs.specs.Counts.{IsShownSet, IsTermSet}
use Rattle.bucket_aggs.specs.declared.posted.TermSet.{TermSet}
use Rattle.bucket_aggs.proofs.Cuts.{none_at}
use Rattle.bucket_aggs.proofs.Lists.{each_at}
use Rattle.bucket_aggs.proofs.Termed.{TermList}
use Rattle.bucket_aggs.proofs.Texts.{no_term, own_term}
use Rattle.bucket_aggs.proofs.showing.text_set.Goals as goal

pub returns-in-Some-known_set : goal.returns-in-Some-known_set
returns-in-Some-known_set c =
    let columns : Columns = c.args.segment.now in
    let it : TermSet = c.index-found-at.result in
    let some : column_of c.args.field columns.ordinals ≡ Some c.in-Some._column = sym c.ordinals.ensures ∙ c.in-Some.is in
    let up : AreAscending (terms_of columns) = subst AreAscending c.terms-terms.ensures c.count-ascending.ensures.ascending in
    let set_is : IsTermSet columns c.args.set.now it.ordinal it.documents =
    subst (λ (x : TermSet). IsTermSet columns c.args.set.now x.ordinal x.documents) (sym c.index-found-at.is)
    (each_at (λ (x : TermSet). x.entry ≡ c.args.entry → IsTermSet columns c.args.set.now x.ordinal x.documents) c.args.found.now c.in-Some-known_set.at it c.requires.found c.in-Some-known_set.ensures.within (c.in-Some-known_set.ensures.entry it)) in
    let at : slice_get (terms_of columns) it.ordinal ≡ Some (c.args.field, c.args.text.now) =
    ap (λ (ts : TermList). slice_get ts it.ordinal) (sym c.terms-terms.ensures)
    ∙ ap (λ (x : TermSet). slice_get c.terms-terms.result x.ordinal) c.index-found-at.is
    ∙ c.in-Some-known_set.ensures.term it in
    subst (IsShownSet columns c.args._kind c.args.field (Written c.args.text.now) c.args.set.now) (sym (c.in_ok-copy.ensures ∙ ap (λ (x : TermSet). x.documents) (sym c.index-found-at.is)))
    (own_term columns c.args._kind c.args.field c.args.text.now c.requires.kind c.values_are_of_documents.ensures.keywords c.in-Some._column c.docs-agree.ensures.agree some c.args.set.now it.documents it.ordinal up at set_is)

pub term_set-requires-clause-ordinal : goal.term_set-requires-clause-ordinal
term_set-requires-clause-ordinal c =
    slice_get_within (terms_of c.args.segment.now) c.in-Some-find.ordinal (c.args.field, c.args.text.now)
    (ap (λ (ts : TermList). slice_get ts c.in-Some-find.ordinal) (sym c.terms-terms.ensures) ∙ c.in-Some-find.ensures.found)

pub returns-in_ok-term_set-in-Some-find : goal.returns-in_ok-term_set-in-Some-find
returns-in_ok-term_set-in-Some-find c =
    let columns : Columns = c.args.segment.now in
    let some : column_of c.args.field columns.ordinals ≡ Some c.in-Some._column = sym c.ordinals.ensures ∙ c.in-Some.is in
    let up : AreAscending (terms_of columns) = subst AreAscending c.terms-terms.ensures c.count-ascending.ensures.ascending in
    own_term columns c.args._kind c.args.field c.args.text.now c.requires.kind c.values_are_of_documents.ensures.keywords c.in-Some._column c.docs-agree.ensures.agree some c.args.set.now c.in_ok-term_set-in-Some-find.field-0 c.in-Some-find.ordinal up
    (ap (λ (ts : TermList). slice_get ts c.in-Some-find.ordinal) (sym c.terms-terms.ensures) ∙ c.in-Some-find.ensures.found) c.in_ok-term_set-in-Some-find.ensures

pub returns-in_ok-empty-in-None : goal.returns-in_ok-empty-in-None
returns-in_ok-empty-in-None c =
    let columns : Columns = c.args.segment.now in
    let some : column_of c.args.field columns.ordinals ≡ Some c.in-Some._column = sym c.ordinals.ensures ∙ c.in-Some.is in
    no_term columns c.args._kind c.args.field c.args.text.now c.requires.kind c.values_are_of_documents.ensures.keywords c.in-Some._column c.docs-agree.ensures.agree some c.args.set.now c.in_ok-empty-in-None.field-0
    (ap length c.in_ok-empty-in-None.ensures ∙ length-replicate {A = Bool} c.len-in-None.result false ∙ c.len-in-None.ensures)
    (λ doc. ap (λ (l : List Bool). get_or l doc false) c.in_ok-empty-in-None.ensures ∙ none_at c.len-in-None.result doc)
    (subst (λ (ts : TermList). ¬ Contains ts (c.args.field, c.args.text.now)) c.terms-terms.ensures (c.in-None.ensures.missing.0 refl))
