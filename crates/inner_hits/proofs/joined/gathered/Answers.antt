use Rattle.std.proofs.Common.{◌≡◌, ℕ, length, take, ap, ◌∙◌, arith}
use Rattle.view_objects.specs.Hits.{hits_in}
use Rattle.inner_hits.specs.Kinship.{kin_from}
use Rattle.inner_hits.proofs.Gathering.{kin_all}
use Rattle.inner_hits.proofs.joined.gathered.Goals as goal

pub returns-clause-kin : goal.returns-clause-kin
returns-clause-kin c =
    let e : c.entries.place ≡ length c.args.entries.now = omega (arith, c.entries.auto.place-end, c.entries-test.false) in
    kin_all c.args.mapping.now c.args.ordinals.now c.args.side c.args.entries.now c.args.matches.now c.entries.kin.items c.requires
    (c.entries.invariant.0 ∙ ap (λ (n : ℕ). kin_from c.args.mapping.now c.args.ordinals.now c.args.side c.args.entries.now (hits_in (take n c.args.matches.now))) e)
