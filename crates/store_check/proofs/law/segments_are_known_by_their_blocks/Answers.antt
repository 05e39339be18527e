use Rattle.std.proofs.Common.{◌≡◌, ℕ, List, map, sym, ap, subst, ◌∙◌}
use Rattle.std.specs.List.{All}
use Rattle.std.proofs.lemmas.List.Elements.{All-from_recursion}
use Rattle.flattener.specs.Block.{BlockState}
use Rattle.flattener.specs.Small.{IsSmall}
use Rattle.segment_builder.specs.Form.{IsFit, IsOrdered}
use Rattle.segment.specs.Flat.{FlatDocument, flat_of, flats_of, roots_of}
use Rattle.segment_builder.specs.Blocks.{blocks_of}
use Rattle.segment_builder.specs.ByKey.{SayAtKeys}
use Rattle.segment_builder.specs.Entries.{flats_in, no_entries, with_blocks}
use Rattle.segment_merge.proofs.Carried.{fit, ordered, small}
use Rattle.segment_merge.proofs.Kept.{each_document}
use Rattle.segment_parts.specs.declared.columns.Columns.{Columns}
use Rattle.store_check.proofs.Columns.{columns_once}
use Rattle.store_check.proofs.law.segments_are_known_by_their_blocks.Goals as goal

-- what holds of each document of columns that agree
each_flat : (Q : FlatDocument → Type 0) (columns : Columns) → ((doc : ℕ) → Q (flat_of columns doc)) → All Q (flats_of columns)
each_flat Q columns all = All-from_recursion Q (flats_of columns) (each_document Q columns all)

pub returns : goal.returns
returns c = λ m fits fits' same.
    let one : Columns = c.args.one.now in
    let other : Columns = c.args.other.now in
    let agree = c.docs-count.ensures.agree in
    let agree' = c.docs-other_count.ensures.agree in
    let entries = with_blocks no_entries (blocks_of one) in
    let say =
    c.segments_say_what_documents_carry.ensures m fits (each_flat IsOrdered one (λ doc. ordered one agree doc)) (each_flat IsSmall one (λ doc. small one agree doc))
    (each_flat IsFit one (λ doc. fit one agree doc)) in
    let say' =
    c.segments_say_what_documents_carry-2.ensures m fits' (each_flat IsOrdered other (λ doc. ordered other agree' doc)) (each_flat IsSmall other (λ doc. small other agree' doc))
    (each_flat IsFit other (λ doc. fit other agree' doc)) in
    let flats : flats_of one ≡ flats_of other =
    sym (c.fitting_segments_are_blocks.ensures.flats m one fits) ∙ (ap flats_in same ∙ c.fitting_segments_are_blocks.ensures.flats m other fits') in
    let roots : roots_of one ≡ roots_of other =
    sym (c.fitting_segments_are_blocks.ensures.same m one fits)
    ∙ (ap (map (λ (block : BlockState). block.root)) same ∙ c.fitting_segments_are_blocks.ensures.same m other fits') in
    columns_once entries one other
    (record {
      agree = agree;
      long = c.docs-count.ensures.flats ∙ c.docs-count.ensures.documents;
      shown = record { sets = c.scopes_are_of_documents.ensures.sets; within = c.scopes_are_of_documents.ensures.within };
      say = say;
    })
    (record {
      agree = agree';
      long = c.docs-other_count.ensures.flats ∙ c.docs-other_count.ensures.documents;
      shown = record { sets = c.scopes_are_of_documents-2.ensures.sets; within = c.scopes_are_of_documents-2.ensures.within };
      say = subst (λ (blocks : List BlockState). SayAtKeys (with_blocks no_entries blocks) other) (sym same) say';
    })
    flats
    roots
