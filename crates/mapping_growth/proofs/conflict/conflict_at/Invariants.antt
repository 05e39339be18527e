use Rattle.std.proofs.Common.{◌≡◌, map, drop}
use Rattle.mapping_growth.specs.Fields.{drafts_of}
use Rattle.mapping_growth.specs.Judged.{otherwise_at}
use Rattle.mapping_growth.specs.Outline.{outline_of}
use Rattle.mapping_growth.specs.Relations.{relations_of}
use Rattle.mapping_growth.proofs.conflict.conflict_at.Given as goal

abbrev pub invariant-outlines : goal.invariant-outlines
invariant-outlines l =
    otherwise_at (relations_of l.said) (drafts_of l.said) (map outline_of (drop l.outline-index l.outlines))
    ≡ otherwise_at (relations_of l.said) (drafts_of l.said) (map outline_of l.outlines)
