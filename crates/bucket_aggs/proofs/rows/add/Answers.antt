use Rattle.std.proofs.Common.{◌≡◌, ℕ, true, false, [], ◌∷◌, ◌++◌, sym, ap, ◌∙◌}
use Rattle.std.specs.Ordering.{is_eq}
use Rattle.query_ast.specs.Compare.{is_same_value}
use Rattle.bucket_aggs.proofs.Weights.{Rows, added_other, added_same}
use Rattle.bucket_aggs.proofs.rows.add.Goals as goal

pub returns-in_ok-push-in-Some : goal.returns-in_ok-push-in-Some
returns-in_ok-push-in-Some c =
    let last = c.in-Some.last in
    let front : Rows = c.pop.new.self.items in
    let same : is_same_value last.key c.args.key ≡ true = ap is_eq (sym c.compared.ensures) ∙ sym c.is_eq.ensures ∙ c.if-is_eq.true in
    added_same c.args.key c.args.count front last c.args.rows.now.items c.push.new.self.items c.in-Some.ensures.items same
    (c.in_ok-push-in-Some.ensures.items ∙ ap (λ (n : ℕ). front ++ record { key = last.key; count = n } ∷ []) c.in-Some-checked_add.ensures.1)

pub returns-in_ok-push-in-Some-3 : goal.returns-in_ok-push-in-Some-3
returns-in_ok-push-in-Some-3 c =
    let last = c.in-Some.last in
    let front : Rows = c.pop.new.self.items in
    let other : is_same_value last.key c.args.key ≡ false = ap is_eq (sym c.compared.ensures) ∙ sym c.is_eq.ensures ∙ c.if-is_eq.false in
    added_other c.args.key c.args.count front last c.args.rows.now.items c.push-else-is_eq-2.new.self.items c.in-Some.ensures.items other
    (c.in_ok-push-in-Some-3.ensures.items ∙ ap (λ (l : Rows). l ++ record { key = c.args.key; count = c.args.count } ∷ []) c.in_ok-push-in-Some-2.ensures.items)
