use Rattle.std.proofs.Common.{◌≡◌, ◌++◌, map, filter, not, drop}
use Rattle.mapping_growth.specs.Fields.{draft_paths, drafts_of}
use Rattle.mapping_growth.specs.Kept.{made_of}
use Rattle.mapping_body.specs.Names.{is_among}
use Rattle.mapping_growth.proofs.taken.push_new.Given as goal

abbrev pub invariant-fields : goal.invariant-fields
invariant-fields l =
    map made_of l.whole.items ++ filter (λ d. not (is_among (draft_paths (drafts_of l.said)) d.path)) (map made_of (drop l.field-index l.fields))
    ≡ map made_of l.fn.whole.items ++ filter (λ d. not (is_among (draft_paths (drafts_of l.said)) d.path)) (map made_of l.fields)
