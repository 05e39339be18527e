use Rattle.std.proofs.Common.{ℕ, IfSome, List, Option, Some, map, subst, sym}
use Rattle.std.specs.Option.{option_copied}
use Rattle.reply_text.specs.HitParts.{page_entry}
use Rattle.reply_text.specs.Next.{ArePassed}
use Rattle.reply_text.specs.declared.inner_hits.NamedPage.{NamedPage}
use Rattle.reply_text.proofs.Next.{passed_on}
use Rattle.reply_text.proofs.inner_hits.next_page.Goals as goal

pub returns-in-Some-clause-passed : goal.returns-in-Some-clause-passed
returns-in-Some-clause-passed c =
    let last = option_copied c.args.last in
    let es = map page_entry c.args.pages.now in
    let page = c.in-Some.named.0.now in
    let start : ArePassed (Some page.name) es c.args.at.now = passed_on last es es c.args.at.now (page_entry page) c.in-Some.ensures.next c.requires.passed in
    subst (λ (found : Option NamedPage). IfSome found (λ named. ArePassed (Some named.0.now.name) es c.passed.result)) (sym c.in-Some.is)
    (subst (λ (name : List ℕ). ArePassed (Some name) es c.passed.result) c.as_slice.ensures
    (c.passed.ensures (subst (λ (name : List ℕ). ArePassed (Some name) es c.args.at.now) (sym c.as_slice.ensures) start)))
