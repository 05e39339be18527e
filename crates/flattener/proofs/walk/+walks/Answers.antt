use Rattle.std.proofs.Common.{◌≡◌, [], map, sym}
use Rattle.mapping.proofs.Nearest.{append_nil}
use Rattle.tree_json.specs.Value.{object, members_of}
use Rattle.tree_objects.specs.Object.{items}
use Rattle.flattener.specs.Seen.{document_seen}
use Rattle.flattener.specs.Walked.{names_behind}
use Rattle.flattener.proofs.Gathers.{items_without}
use Rattle.flattener.proofs.walk.+walks.Goals as goal

pub walk_member-returns-in-None-clause-ok : goal.walk_member-returns-in-None-clause-ok
walk_member-returns-in-None-clause-ok t c =
    let none : items (object (members_of c.args.within.now)) (names_behind c.args.path.now) ≡ [] =
    items_without (members_of c.args.within.now) c.args.path.now (rw c.first_name.ensures.name at (sym c.in-None.ensures)) in
    rw none (sym (append_nil (map document_seen c.args.into.now.items)))
