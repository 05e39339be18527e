use Rattle.std.proofs.Common.{All, subst, sym}
use Rattle.std.specs.List.{AllByRecursion}
use Rattle.flattener.specs.Small.{IsSmall}
use Rattle.segment_builder.specs.Blocks.{blocks_of}
use Rattle.segment_builder.specs.Entries.{flats_in}
use Rattle.segment_builder.specs.Form.{IsFit, IsOrdered}
use Rattle.segment_builder.proofs.Again.{keywords_again, numbers_again, terms_again, texts_again}
use Rattle.segment_builder.proofs.Agreeing.{kinds_of, written_by}
use Rattle.segment_builder.proofs.Blocked.{blocks_fit, flats_again}
use Rattle.segment_builder.proofs.Written.{IsWritten}
use Rattle.segment_builder.proofs.law.segments_say_what_documents_carry.Goals as goal

pub returns : goal.returns
returns c =
    let columns = c.args.segment.now in
    λ m fits ordered small fit.
    let same = flats_again m columns fits in
    let all : AllByRecursion (IsWritten (kinds_of m)) (flats_in (blocks_of columns)) =
    written_by m (blocks_of columns) (blocks_fit m columns fits) (subst (All IsOrdered) (sym same) ordered) (subst (All IsSmall) (sym same) small) (subst (All IsFit) (sym same) fit) in
    record {
      terms_are = terms_again m columns c.docs.ensures.agree (blocks_of columns) same all c.keys_are_ordered.ensures c.terms_are_of_documents.ensures.terms c.terms_are_of_documents.ensures.within;
      numbers_are = numbers_again m columns c.docs.ensures.agree (blocks_of columns) same all;
      keywords_are = keywords_again m columns c.docs.ensures.agree (blocks_of columns) same all;
      texts_are = texts_again m columns c.docs.ensures.agree (blocks_of columns) same all;
    }
