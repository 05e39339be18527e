use Rattle.std.proofs.Common.{ℕ, List, sym, ap, ◌∙◌}
use Rattle.stored_sources.specs.declared.root.Root.{Root}
use Rattle.stored_sources.specs.Kept.{root_in}
use Rattle.stored_sources.proofs.Rows.{root_of-in}
use Rattle.stored_sources.proofs.kept.front_of.Goals as goal

pub returns-clause-id : goal.returns-clause-id
returns-clause-id c =
    c.front_from.ensures.id ∙ ap (λ (bytes : List ℕ). (root_in bytes).id) c.row.ensures
    ∙ sym (ap (λ (root : Root). root.id) (root_of-in c.args.places.now c.args.bytes.now c.args.at c.requires.below))

pub returns-clause-number : goal.returns-clause-number
returns-clause-number c =
    c.front_from.ensures.number ∙ ap (λ (bytes : List ℕ). (root_in bytes).number) c.row.ensures
    ∙ sym (ap (λ (root : Root). root.number) (root_of-in c.args.places.now c.args.bytes.now c.args.at c.requires.below))

pub returns-clause-generation : goal.returns-clause-generation
returns-clause-generation c =
    c.front_from.ensures.generation ∙ ap (λ (bytes : List ℕ). (root_in bytes).generation) c.row.ensures
    ∙ sym (ap (λ (root : Root). root.generation) (root_of-in c.args.places.now c.args.bytes.now c.args.at c.requires.below))
