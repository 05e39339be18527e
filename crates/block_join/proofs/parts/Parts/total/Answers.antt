use Rattle.std.proofs.Common.{◌≡◌, ℕ, List, [], Option, None, drop, replicate, sym, ap, ◌∙◌, arith}
use Rattle.std.proofs.lemmas.List.{drop_all, length-replicate}
use Rattle.block_join.specs.declared.parts.Part.{Part}
use Rattle.block_join.proofs.Totals.{no_total, total_from, total_is}
use Rattle.block_join.proofs.parts.Parts.total.Goals as goal

pub returns-clause-sum : goal.returns-clause-sum
returns-clause-sum c =
    let items = c.deref-part-items.result.now in
    let it = c.args.self.now in
    let none : List (Option ℕ) = replicate {A = Option ℕ} it.len None in
    let ends : drop c.parts.part-index items ≡ [] = drop_all c.parts.part-index items (omega (arith, c.parts-test.false)) in
    ap (λ (l : List Part). total_from c.parts.total l c.args.from c.args.end) (sym ends)
    ∙ c.parts.invariant.0
    ∙ ap (λ (l : List Part). total_from 0 l c.args.from c.args.end) c.parts.invariant.1
    ∙ ap (λ n. total_from n it.parts.items c.args.from c.args.end) (sym (no_total it.len c.args.from c.args.end))
    ∙ sym (total_is it.len none it.parts.items c.args.from c.args.end c.requires.parts (length-replicate it.len None))
