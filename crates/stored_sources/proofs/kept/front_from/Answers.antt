use Rattle.std.proofs.Common.{ℕ, List, sym, ap, ◌∙◌}
use Rattle.std.proofs.lemmas.Option.{none-some}
use Rattle.stored_sources.specs.declared.root.Root.{Root}
use Rattle.stored_sources.proofs.Rows.{front_read, front_or, text_in}
use Rattle.stored_sources.proofs.kept.front_from.Goals as goal

pub unreachable-requires : goal.unreachable-requires
unreachable-requires c = none-some (c.requires.root.id, (c.requires.root.number, c.requires.root.generation)) (sym c.in-None.ensures ∙ front_read c.args.bytes.now c.requires)

pub returns-clause-id : goal.returns-clause-id
returns-clause-id c =
    let same = ap front_or (sym c.in-Some.ensures ∙ front_read c.args.bytes.now c.requires) in
    ap (λ (front : List ℕ × (ℕ × ℕ)). front.0) same ∙ sym (ap (λ (root : Root). root.id) (text_in c.args.bytes.now c.requires))

pub returns-clause-number : goal.returns-clause-number
returns-clause-number c =
    let same = ap front_or (sym c.in-Some.ensures ∙ front_read c.args.bytes.now c.requires) in
    ap (λ (front : List ℕ × (ℕ × ℕ)). front.1.0) same ∙ sym (ap (λ (root : Root). root.number) (text_in c.args.bytes.now c.requires))

pub returns-clause-generation : goal.returns-clause-generation
returns-clause-generation c =
    let same = ap front_or (sym c.in-Some.ensures ∙ front_read c.args.bytes.now c.requires) in
    ap (λ (front : List ℕ × (ℕ × ℕ)). front.1.1) same ∙ sym (ap (λ (root : Root). root.generation) (text_in c.args.bytes.now c.requires))
