use Rattle.std.proofs.Common.{◌≡◌, List, ℕ, sym, subst}
use Rattle.search_form.specs.declared.form.Form.{Form}
use Rattle.search_form.specs.declared.form.Form.TheVariants.{Query, Nested, InnerHits}
use Rattle.search_form.specs.declared.form.Presence.{Presence}
use Rattle.search_form.specs.Form.{line_at}
use Rattle.search_form.proofs.object.line_at.Goals as goal

under : (known form : Form) (name : List ℕ) (line : Presence × Form) → form ≡ known → line ≡ line_at known name → line ≡ line_at form name
under known form name line same found = subst (λ (f : Form). line ≡ line_at f name) (sym same) found

pub returns-in-Query : goal.returns-in-Query
returns-in-Query c = under Query c.args.form c.args.name.now c.query_line.result c.in-Query.is c.query_line.ensures

pub returns-in-Nested : goal.returns-in-Nested
returns-in-Nested c = under Nested c.args.form c.args.name.now c.nested_line.result c.in-Nested.is c.nested_line.ensures

pub returns-in-InnerHits : goal.returns-in-InnerHits
returns-in-InnerHits c = under InnerHits c.args.form c.args.name.now c.inner_hits_line.result c.in-InnerHits.is c.inner_hits_line.ensures
