use Rattle.std.proofs.Common.{sym, ap, ◌∙◌}
use Rattle.part_text.specs.Front.{first_u32}
use Rattle.doc_values.proofs.Entries.{get_or-documents_in}
use Rattle.doc_values.proofs.search.document.Goals as goal

pub returns : goal.returns
returns c =
    c.first_u32.ensures ∙ ap first_u32 c.row.ensures
    ∙ sym (get_or-documents_in c.args.places.now c.args.bytes.now c.args.at 0 c.requires.below)
