use Rattle.std.proofs.Common.{◌≡◌, ◌-◌, drop, length, refl, sym, ap, ◌∙◌, arith, rules, subst, None}
use Rattle.part_text.specs.Reads.{IsBytes}
use Rattle.part_text.specs.Placed.{ArePlaced}
use Rattle.stored_sources.specs.Text.{root_text}
use Rattle.stored_sources.specs.Reading.{root_at, roots_at}
use Rattle.stored_sources.proofs.Found.{no_roots, found}
use Rattle.stored_sources.proofs.sources.StoredSources.places.Goals as goal

pub returns-in_default-clause-only : goal.returns-in_default-clause-only
returns-in_default-clause-only c = λ _ own rest inside long are there. absurd (let past = c.in_default.ensures.none refl in omega (arith, inside, past))

pub overflow_sub-result : goal.overflow_sub-result
overflow_sub-result c =
    let bytes : IsBytes c.args.bytes.now = λ i. omega (arith, c.type_inv.bytes i) in
    let placed = rw c.in-Some-2.is at c.in_ok-places.ensures.roots in
    let there = subst (λ own. ArePlaced (λ _. tt {0}) root_text (λ _. root_at) c.args.roots own (length c.args.bytes.now - length own) c.in-Some-2.rest.now c.in-Some-2.places) c.in-Some.ensures.some.0 placed in
    (found c.args.bytes.now c.args.at c.args.roots c.in-Some-2.rest.now c.in-Some-2.places bytes c.in-Some.ensures.some.1 (search rules) there).within

pub returns-in-Some-2-clause-found : goal.returns-in-Some-2-clause-found
returns-in-Some-2-clause-found c =
    let bytes : IsBytes c.args.bytes.now = λ i. omega (arith, c.type_inv.bytes i) in
    let placed = rw c.in-Some-2.is at c.in_ok-places.ensures.roots in
    let there = subst (λ own. ArePlaced (λ _. tt {0}) root_text (λ _. root_at) c.args.roots own (length c.args.bytes.now - length own) c.in-Some-2.rest.now c.in-Some-2.places) c.in-Some.ensures.some.0 placed in
    let it = found c.args.bytes.now c.args.at c.args.roots c.in-Some-2.rest.now c.in-Some-2.places bytes c.in-Some.ensures.some.1 (search rules) there in
    (it.roots, it.long, it.stands)

pub returns-in-None-clause-only : goal.returns-in-None-clause-only
returns-in-None-clause-only c = λ _ own rest inside long are there.
    let none = rw c.in-None.is at c.in_ok-places.ensures.none in
    let nothing : roots_at c.args.roots (drop c.args.at c.args.bytes.now) ≡ None = ap (roots_at c.args.roots) (sym c.in-Some.ensures.some.0) ∙ none refl in
    no_roots c.args.bytes.now c.args.at c.args.roots nothing own rest long are there
