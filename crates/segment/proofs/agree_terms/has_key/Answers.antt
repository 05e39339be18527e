use Rattle.std.proofs.Common.{rules, w64, FitsSigned, refl}
use Rattle.std.proofs.lemmas.Bool.{false≢true}
use Rattle.std.proofs.lemmas.Int.{to_z-of_z}
use Rattle.segment_parts.specs.NumberKeys.{contains-key, contains-no_key}
use Rattle.segment.proofs.agree_terms.has_key.Goals as goal

pub returns-in-Some : goal.returns-in-Some
returns-in-Some c =
    let numbers = c.args.values.now in
    let number = c.in-Some.number in
    let fits : FitsSigned w64 number = search rules in
    let keyed = contains-key numbers number c.args.key.now c.in-Some.ensures.some fits (λ k inside. c.requires.fit k number inside) in
    let found = rw (to_z-of_z w64 number fits) at c.has_number.ensures in
    (λ yes. keyed.0 (found.0 yes), λ there. found.1 (keyed.1 there))

pub returns-in-None : goal.returns-in-None
returns-in-None c =
    (λ no. absurd (false≢true no), λ there. absurd (contains-no_key c.args.values.now c.args.key.now (c.in-None.ensures.none.0 refl) there))
