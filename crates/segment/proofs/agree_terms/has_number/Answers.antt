use Rattle.std.proofs.Common.{◌≡◌, ◌↔◌, ◌∙◌, ◌+◌, ◌-◌, ◌/◌, ℤ, IsTrue, false, Contains, Equal, rules, SFits, w64, to_z, of_z, int_cmp, ap, sym, subst, arith}
use Rattle.std.proofs.lemmas.Cmp.{int_cmp_total, int_ranked}
use Rattle.std.proofs.lemmas.Int.{to_z-of_z}
use Rattle.segment.proofs.Halves.{halved_above, halved_below, halved_found, halved_all}
use Rattle.segment.proofs.agree_terms.has_number.Goals as goal

pub halves-preserved-in-Less : goal.halves-preserved-in-Less
halves-preserved-in-Less c =
    let number = to_z w64 (of_z w64 c.args.number) in
    let fits : SFits w64 c.value.result = search rules in
    let own : to_z w64 (of_z w64 c.value.result) ≡ c.value.result = to_z-of_z w64 c.value.result fits in
    halved_above int_cmp_total c.args.values.now number c.value.result c.halves.low (c.halves.low + (c.halves.high - c.halves.low) / 2) c.halves.high c.requires c.halves.invariant c.value.ensures (ap (λ (z : ℤ). int_cmp z number) (sym own) ∙ sym c.in-Less.ensures)

pub returns-in-Equal : goal.returns-in-Equal
returns-in-Equal c =
    let number = to_z w64 (of_z w64 c.args.number) in
    let fits : SFits w64 c.value.result = search rules in
    let own : to_z w64 (of_z w64 c.value.result) ≡ c.value.result = to_z-of_z w64 c.value.result fits in
    let same : c.value.result ≡ number = sym own ∙ int_ranked (to_z w64 (of_z w64 c.value.result)) number Equal c.in-Equal.ensures in
    halved_found c.args.values.now c.args.number c.value.result (c.halves.low + (c.halves.high - c.halves.low) / 2) c.value.ensures (same ∙ to_z-of_z w64 c.args.number c.ranges.number)

pub halves-preserved : goal.halves-preserved
halves-preserved c =
    let number = to_z w64 (of_z w64 c.args.number) in
    let fits : SFits w64 c.value.result = search rules in
    let own : to_z w64 (of_z w64 c.value.result) ≡ c.value.result = to_z-of_z w64 c.value.result fits in
    halved_below int_cmp_total c.args.values.now number c.value.result c.halves.low (c.halves.low + (c.halves.high - c.halves.low) / 2) c.halves.high c.requires c.halves.invariant c.value.ensures (ap (λ (z : ℤ). int_cmp z number) (sym own) ∙ sym c.in-Greater.ensures)

pub returns : goal.returns
returns c =
    let number = to_z w64 (of_z w64 c.args.number) in
    subst (λ (z : ℤ). IsTrue false ↔ Contains c.args.values.now z) (to_z-of_z w64 c.args.number c.ranges.number) (halved_all c.args.values.now number c.halves.low c.halves.high c.halves.invariant (omega (arith, c.halves-test.false)))
