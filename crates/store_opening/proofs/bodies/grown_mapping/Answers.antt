use Rattle.std.proofs.Common.{◌∙◌, Err, ap}
use Rattle.mapping_body.specs.declared.refusal.MappingRefusal.{MappingRefusal}
use Rattle.tree_json.specs.View.{view}
use Rattle.store_opening.proofs.Grown.{value_text, adds_none, not_same, not_otherwise}
use Rattle.store_opening.proofs.bodies.grown_mapping.Goals as goal

pub returns-in-Ok-Same-clause-none : goal.returns-in-Ok-Same-clause-none
returns-in-Ok-Same-clause-none c = λ none m it.
    not_same c.args.body.now c.args.mapping.now m (view c.in-Some.value) c.requires
    (value_text c.args.body.now c.in_ok-value.field-0 c.in-Some.value c.in-Some.is c.in_ok-value.ensures.value)
    (adds_none c.args.mapping.now (view c.in-Some.value) c.in-Ok-Same.field-0 c.in-Ok-Same.field-0-is c.in-Ok-Same.ensures.grown) it

pub returns-in-Err-Conflict-clause-none : goal.returns-in-Err-Conflict-clause-none
returns-in-Err-Conflict-clause-none c = λ none m it.
    let conflict = c.grown.ensures.conflict c.in-Err-Conflict.field-0-0
    (c.in-Err-Conflict.is ∙ ap (λ (x : MappingRefusal). Err x) c.in-Err-Conflict.field-0-is) in
    not_otherwise c.args.body.now c.args.mapping.now m (view c.in-Some.value) c.in-Err-Conflict.field-0-0 c.requires
    (value_text c.args.body.now c.in_ok-value.field-0 c.in-Some.value c.in-Some.is c.in_ok-value.ensures.value) conflict.1 it
