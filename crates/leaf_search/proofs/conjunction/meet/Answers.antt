use Rattle.std.proofs.Common.{ℕ, List, ◌≡◌, sym, ap, ◌∙◌}
use Rattle.std.specs.List.{list_any}
use Rattle.postings.specs.Postings.{Standing, present_positions}
use Rattle.leaf_search.specs.Cursors.{lists_in}
use Rattle.leaf_search.specs.Words.{stands_around}
use Rattle.leaf_search.proofs.Around.{all_there, fails_before, fails_behind, in_turn}
use Rattle.leaf_search.proofs.Going.{all_passed, is_present, own_shown, values_on}
use Rattle.leaf_search.proofs.conjunction.meet.Goals as goal

pub returns-then-not-go_to-clause-behind_passed : goal.returns-then-not-go_to-clause-behind_passed
returns-then-not-go_to-clause-behind_passed c = all_passed c.args.doc c.args.behind.now.items c.requires.behind

pub returns-then-not-go_to-clause-says : goal.returns-then-not-go_to-clause-says
returns-then-not-go_to-clause-says c =
    fails_before c.args.in_order (lists_in c.args.before.now.items) (lists_in c.args.behind.now.items) c.args.own.now.postings c.args.doc (sym c.go_to.ensures.says ∙ c.if-not-go_to.true)

pub returns-then-not-go_to-2-clause-says : goal.returns-then-not-go_to-2-clause-says
returns-then-not-go_to-2-clause-says c =
    fails_behind c.args.in_order (lists_in c.args.before.now.items) (lists_in c.args.behind.now.items) c.args.own.now.postings c.args.doc (sym c.go_to-2.ensures.says ∙ c.if-not-go_to-2.true)

pub returns-then-not-in_order-clause-says : goal.returns-then-not-in_order-clause-says
returns-then-not-in_order-clause-says c =
    all_there c.args.in_order (lists_in c.args.before.now.items) (lists_in c.args.behind.now.items) c.args.own.now.postings c.args.doc c.if-not-in_order.true
    (sym c.go_to.ensures.says ∙ c.if-not-go_to.false) (own_shown c.args.doc c.args.own.now c.requires.own) (sym c.go_to-2.ensures.says ∙ c.if-not-go_to-2.false)

pub stand_in_order-requires-clause-own : goal.stand_in_order-requires-clause-own
stand_in_order-requires-clause-own c = is_present c.args.doc c.args.own.now c.requires.own

pub returns-clause-says : goal.returns-clause-says
returns-clause-says c =
    let before : lists_in c.as_slice.result.now ≡ lists_in c.args.before.now.items = ap (λ (l : List Standing). lists_in l) c.as_slice.ensures.value ∙ c.go_to.ensures.lists in
    let behind : lists_in c.as_slice-2.result.now ≡ lists_in c.args.behind.now.items = ap (λ (l : List Standing). lists_in l) c.as_slice-2.ensures.value ∙ c.go_to-2.ensures.lists in
    let ps : List ℕ = present_positions c.args.own.now in
    in_turn c.args.in_order (lists_in c.args.before.now.items) (lists_in c.args.behind.now.items) c.args.own.now.postings c.args.doc c.stand_in_order.result ps c.if-not-in_order.false
    (c.stand_in_order.ensures
    ∙ ap (λ (l : List (List (ℕ × List ℕ))). list_any (stands_around l (lists_in c.as_slice-2.result.now) c.args.doc) ps) before
    ∙ ap (λ (l : List (List (ℕ × List ℕ))). list_any (stands_around (lists_in c.args.before.now.items) l c.args.doc) ps) behind)
    (values_on c.args.doc c.args.own.now c.requires.own)
