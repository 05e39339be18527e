use Rattle.std.proofs.Common.{◌<◌, length, arith}
use Rattle.std.proofs.lemmas.Bool.Decides.{nat_tests}
use Rattle.tree_json.specs.View.{view}
use Rattle.flattener.specs.Seen.{document_seen}
use Rattle.flattener.proofs.Documents.{begun_next}
use Rattle.flattener.proofs.fields.fill_all.Goals as goal

pub fields-preserved : goal.fields-preserved
fields-preserved c =
    let within : c.fields.field < length c.args.mapping.now.fields = grind (arith, nat_tests) in
    begun_next c.args.mapping.now c.args.generation c.args.scope (view c.args.content.now) c.fields.field (document_seen c.fields.into) (document_seen c.add_if_shown.new.into) within c.fields.invariant c.in_ok-add_if_shown.ensures
