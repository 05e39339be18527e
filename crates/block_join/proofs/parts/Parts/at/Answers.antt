use Rattle.std.proofs.Common.{◌≡◌, ℕ, List, [], Option, None, drop, replicate, sym, ap, ◌∙◌, arith}
use Rattle.std.proofs.lemmas.List.{drop_all, length-replicate}
use Rattle.block_join.specs.declared.parts.Part.{Part}
use Rattle.block_join.proofs.Totals.{none_here, value_from, value_is}
use Rattle.block_join.proofs.parts.Parts.at.Goals as goal

pub returns : goal.returns
returns c =
    let items = c.deref-part-items.result.now in
    let it = c.args.self.now in
    let doc = c.args.doc in
    let none : List (Option ℕ) = replicate {A = Option ℕ} it.len None in
    let ends : drop c.parts.part-index items ≡ [] = drop_all c.parts.part-index items (omega (arith, c.parts-test.false)) in
    ap (λ (l : List Part). value_from c.parts.sum l doc) (sym ends)
    ∙ c.parts.invariant.0
    ∙ ap (λ (l : List Part). value_from None l doc) c.parts.invariant.1
    ∙ ap (λ (v : Option ℕ). value_from v it.parts.items doc) (sym (none_here it.len doc))
    ∙ sym (value_is it.len none it.parts.items doc c.requires.parts (length-replicate it.len None) c.requires.within)
