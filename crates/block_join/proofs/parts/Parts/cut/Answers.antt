use Rattle.std.proofs.Common.{◌≡◌, ◌<◌, ℕ, List, [], Option, None, length, get_or, drop, replicate, sym, ap, ◌∙◌, arith}
use Rattle.std.proofs.lemmas.List.{drop_all, length-replicate}
use Rattle.block_join.specs.Sums.{IsPart, summed}
use Rattle.block_join.specs.declared.parts.Part.{Part}
use Rattle.block_join.proofs.Totals.{cut_from, cut_is, cut_none, length_intersection}
use Rattle.block_join.proofs.parts.Parts.cut.Goals as goal

pub add-requires-clause-long : goal.add-requires-clause-long
add-requires-clause-long c =
    let all = c.args.self.now.parts.items in
    let at = c.parts.part-index in
    let below : at < length all = omega (arith, c.parts-test.true, ap length c.parts.invariant.1) in
    let is : IsPart c.args.self.now.len (get_or all at c.part-item.result) = c.requires.parts at c.part-item.result below in
    let own : c.part-item.result ≡ get_or all at c.part-item.result = c.part-item.is ∙ ap (λ (l : List Part). get_or l at c.part-item.result) c.parts.invariant.1 in
    let long : length c.in_ok-set.set ≡ c.args.self.now.len = ap length c.in_ok-set.ensures ∙ ap (λ (p : Part). length p.set) own ∙ is.long in
    ap length c.and.ensures ∙ length_intersection c.in_ok-set.set c.args.within.now (long ∙ sym c.requires.long) ∙ long ∙ sym c.parts.invariant.2

pub returns-clause-sums : goal.returns-clause-sums
returns-clause-sums c =
    let items = c.deref-part-items.result.now in
    let it = c.args.self.now in
    let within = c.args.within.now in
    let none : List (Option ℕ) = replicate {A = Option ℕ} it.len None in
    let ends : drop c.parts.part-index items ≡ [] = drop_all c.parts.part-index items (omega (arith, c.parts-test.false)) in
    ap (λ (l : List Part). cut_from within (summed c.parts.made) l) (sym ends)
    ∙ c.parts.invariant.0
    ∙ ap (λ (l : List Part). cut_from within none l) c.parts.invariant.1
    ∙ ap (λ (l : List (Option ℕ)). cut_from within l it.parts.items) (sym (cut_none it.len within c.requires.long))
    ∙ sym (cut_is it.len within none it.parts.items c.requires.parts (length-replicate it.len None) c.requires.long)
