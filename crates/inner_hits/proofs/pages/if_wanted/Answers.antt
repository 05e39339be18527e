use Rattle.std.proofs.Common.{rules, ◌≡◌, ℕ, Bool, true, List, Some, None, if◌then◌else◌, ap, ◌∙◌}
use Rattle.inner_hits.proofs.pages.if_wanted.Goals as goal

wanted : (asked : Bool) (own text : List ℕ) → asked ≡ true → own ≡ text → Some own ≡ (if asked then Some text else None)
wanted asked own text is same = rw is (ap Some same)

pub returns-clause-text : goal.returns-clause-text
returns-clause-text g c = λ m bits trees stands.
    let yes : c.args.asked ≡ true = search rules in
    wanted c.args.asked c.of.result _ yes (c.of.ensures ∙ c.in_ok-text.ensures.source m bits trees stands)
