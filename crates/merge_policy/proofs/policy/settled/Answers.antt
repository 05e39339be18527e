use Rattle.std.proofs.Common.{◌≡◌, map, ap, subst}
use Rattle.std.specs.Prelude.{IfOk}
use Rattle.merge_policy.proofs.Apart.{own_of}
use Rattle.merge_policy.proofs.Counting.{few_of, layout_of, order_of}
use Rattle.merge_policy.proofs.policy.settled.Goals as goal
use Rattle.merge_policy.specs.Policy.{Settling, all_anew, run_in}

pub returns-clause-layout : goal.returns-clause-layout
returns-clause-layout c =
    let same = ap (λ (s : Settling). all_anew s.made s.neighbours) c.in_ok-evened.ensures.settled in
    let runs = subst (λ (s : Settling). IfOk c.anew.result (λ it. it.runs.items ≡ map run_in s.neighbours)) same c.anew.ensures.runs in
    let made = subst (λ (s : Settling). IfOk c.anew.result (λ it. it.made ≡ s.made)) same c.anew.ensures.made in
    layout_of c.anew.result c.args.factor c.args.counts.now runs made

pub returns-clause-order : goal.returns-clause-order
returns-clause-order c =
    let same = ap (λ (s : Settling). all_anew s.made s.neighbours) c.in_ok-evened.ensures.settled in
    let runs = subst (λ (s : Settling). IfOk c.anew.result (λ it. it.runs.items ≡ map run_in s.neighbours)) same c.anew.ensures.runs in
    let made = subst (λ (s : Settling). IfOk c.anew.result (λ it. it.made ≡ s.made)) same c.anew.ensures.made in
    order_of c.anew.result c.args.factor c.args.counts.now runs made

pub returns-clause-own : goal.returns-clause-own
returns-clause-own c =
    let same = ap (λ (s : Settling). all_anew s.made s.neighbours) c.in_ok-evened.ensures.settled in
    own_of c.anew.result c.args.factor c.args.counts.now (subst (λ (s : Settling). IfOk c.anew.result (λ it. it.runs.items ≡ map run_in s.neighbours)) same c.anew.ensures.runs)

pub returns-clause-few : goal.returns-clause-few
returns-clause-few c =
    let same = ap (λ (s : Settling). all_anew s.made s.neighbours) c.in_ok-evened.ensures.settled in
    few_of c.anew.result c.args.factor c.args.counts.now (subst (λ (s : Settling). IfOk c.anew.result (λ it. it.made ≡ s.made)) same c.anew.ensures.made)
