use Rattle.std.proofs.Common.{rules, ◌&&◌, ℕ, List, map, Option, Some, None, refl, sym, subst, ◌∙◌, arith}
use Rattle.std.specs.Prelude.{IsSome}
use Rattle.std.proofs.lemmas.Bool.{and_parts}
use Rattle.std.proofs.lemmas.List.{length-map}
use Rattle.block_join.specs.declared.rule.Rule.TheVariants.{Both, Kept, Without, Plus, Either, Greatest, Counted}
use Rattle.leaf_search.specs.Found.{leaf_of}
use Rattle.query_ast.specs.Clause.{Clause, Clauses, clauses_of, match_all, match_none, nested, to_child, has_child, has_parent}
use Rattle.query_ast.specs.Clause.View.{clause_of}
use Rattle.query_ast.specs.Resolved.{IsResolved}
use Rattle.query_eval.specs.Folds.{asked_by, folded_by, is_empty, leaf_score, paired_by, whatever}
use Rattle.query_eval.specs.Found.{IsFound, IsSeen, score_by}
use Rattle.query_eval.specs.Sides.{children_by, parent_by}
use Rattle.query_eval.proofs.Clauses.{asked_nothing, asked_of_many, asked_of_one, clauses_parts, folded_nothing, found_asked, found_childless, found_children, found_constant, found_down, found_everything, found_greatest, found_none, found_of_leaf, found_parent, found_parentless, found_plain, found_up, required_by, some_clauses}
use Rattle.query_eval.proofs.evaluation.+found.Goals as goal

pub found-returns-in_ok-leaves-in_default : goal.found-returns-in_ok-leaves-in_default
found-returns-in_ok-leaves-in_default t c =
    let some : IsSome (leaf_of (clause_of c.args.query.now)) = search rules in
    found_of_leaf c.args.mapping.now c.args.entries.now c.args.scope (clause_of c.args.query.now) c.from.result c.in_ok-leaves-in_default.field-0 (c.from.ensures ∙ c.boost_of.ensures) some c.requires.resolved (λ l is own. c.in_ok-leaves-in_default.ensures.seen l is own)

pub constant-returns : goal.constant-returns
constant-returns t c =
    let m = c.args.mapping.now in
    let q = c.args.filter.now in
    let hits : IsFound m c.args.entries.now c.args.scope q c.in_ok-hits.hits = subst (λ (q : Clause). IsFound m c.args.entries.now c.args.scope q c.in_ok-hits.hits) c.get.ensures c.in_ok-hits.ensures in
    found_constant m c.args.entries.now c.args.scope q c.args.boost c.in_ok-merges.field-0
    (c.in_ok-merges.ensures.seen m c.args.scope (whatever (leaf_score m match_all c.args.boost)) (score_by m q)
    (subst (λ (k : ℕ). IsSeen m c.args.entries.now c.args.scope (whatever (leaf_score m match_all k)) c.in_ok-all.all) c.from.ensures (c.in_ok-all.ensures.seen match_all refl tt)) hits)

pub greatest-returns : goal.greatest-returns
greatest-returns t c =
    let m = c.args.mapping.now in
    let none = whatever (leaf_score m match_none 0) in
    found_greatest m c.args.entries.now c.args.scope (clauses_of c.args.queries.now) c.in_ok-folded.field-0
    (subst (λ (cs : List Clause). IsSeen m c.args.entries.now c.args.scope (folded_by Greatest m (clauses_of cs) none) c.in_ok-folded.field-0) c.as_slice.ensures
    (c.in_ok-folded.ensures.seen none (c.in_ok-none.ensures.seen match_none refl tt)))

pub nested-returns-in_ok-ups-in-Some : goal.nested-returns-in_ok-ups-in-Some
nested-returns-in_ok-ups-in-Some t c =
    let m = c.args.mapping.now in
    let q = c.args.query.now in
    let p = c.in-Some.path in
    let resolved : IsResolved m c.args.scope (nested (Some p) q c.args.mode) = subst (λ (path : Option ℕ). IsResolved m c.args.scope (nested path q c.args.mode)) c.in-Some.is c.requires.resolved in
    let hits : IsFound m c.args.entries.now p q c.in_ok-hits-in-Some.hits = subst (λ (q : Clause). IsFound m c.args.entries.now p q c.in_ok-hits-in-Some.hits) c.get.ensures c.in_ok-hits-in-Some.ensures in
    subst (λ (path : Option ℕ). IsFound m c.args.entries.now c.args.scope (nested path q c.args.mode) c.in_ok-ups-in-Some.field-0) (sym c.in-Some.is)
    (found_up m c.args.entries.now c.args.scope p q c.args.mode c.in_ok-ups-in-Some.field-0 (c.in_ok-ups-in-Some.ensures.seen m p (score_by m q) resolved.0.0 hits))

pub nested-returns-in_ok-leaves-in-None : goal.nested-returns-in_ok-leaves-in-None
nested-returns-in_ok-leaves-in-None t c =
    let m = c.args.mapping.now in
    subst (λ (path : Option ℕ). IsFound m c.args.entries.now c.args.scope (nested path c.args.query.now c.args.mode) c.in_ok-leaves-in-None.field-0) (sym c.in-None.is)
    (found_none m c.args.entries.now c.args.scope (nested None c.args.query.now c.args.mode) c.in_ok-leaves-in-None.field-0 (λ live o here. refl) (c.in_ok-leaves-in-None.ensures.seen match_none refl tt))

pub to_child-returns-in_ok-downs-in-Some : goal.to_child-returns-in_ok-downs-in-Some
to_child-returns-in_ok-downs-in-Some t c =
    let m = c.args.mapping.now in
    let q = c.args.query.now in
    let p = c.in-Some.path in
    let resolved : IsResolved m c.args.scope (to_child (Some p) q) = subst (λ (path : Option ℕ). IsResolved m c.args.scope (to_child path q)) c.in-Some.is c.requires.resolved in
    let hits : IsFound m c.args.entries.now p q c.in_ok-hits-in-Some.hits = subst (λ (q : Clause). IsFound m c.args.entries.now p q c.in_ok-hits-in-Some.hits) c.get.ensures c.in_ok-hits-in-Some.ensures in
    subst (λ (path : Option ℕ). IsFound m c.args.entries.now c.args.scope (to_child path q) c.in_ok-downs-in-Some.field-0) (sym c.in-Some.is)
    (found_down m c.args.entries.now c.args.scope p q c.in_ok-downs-in-Some.field-0 (c.in_ok-downs-in-Some.ensures.seen m (score_by m q) resolved.0 hits))

pub to_child-returns-in_ok-leaves-in-None : goal.to_child-returns-in_ok-leaves-in-None
to_child-returns-in_ok-leaves-in-None t c =
    let m = c.args.mapping.now in
    subst (λ (path : Option ℕ). IsFound m c.args.entries.now c.args.scope (to_child path c.args.query.now) c.in_ok-leaves-in-None.field-0) (sym c.in-None.is)
    (found_none m c.args.entries.now c.args.scope (to_child None c.args.query.now) c.in_ok-leaves-in-None.field-0 (λ live o here. refl) (c.in_ok-leaves-in-None.ensures.seen match_none refl tt))

pub has_child-returns-then-scope-ne0 : goal.has_child-returns-then-scope-ne0
has_child-returns-then-scope-ne0 t c =
    let m = c.args.mapping.now in
    subst (λ (r : Option ℕ). IsFound m c.args.entries.now c.args.scope (has_child r c.args.query.now c.args.mode c.args.least c.args.most) c.in_ok-leaves-in-Some.field-0) (sym c.in-Some.is)
    (found_childless m c.args.entries.now c.args.scope c.in-Some.child c.args.query.now c.args.mode c.args.least c.args.most c.in_ok-leaves-in-Some.field-0 c.if-scope-ne0.true (c.in_ok-leaves-in-Some.ensures.seen match_none refl tt))

pub has_child-returns-in_ok-with_children-in-Some : goal.has_child-returns-in_ok-with_children-in-Some
has_child-returns-in_ok-with_children-in-Some t c =
    let m = c.args.mapping.now in
    let q = c.args.query.now in
    let r = c.in-Some.child in
    let made = c.in_ok-with_children-in-Some.field-0 in
    let hits : IsFound m c.args.entries.now 0 q c.in_ok-hits-in-Some.hits = subst (λ (q : Clause). IsFound m c.args.entries.now 0 q c.in_ok-hits-in-Some.hits) c.get.ensures c.in_ok-hits-in-Some.ensures in
    let seen : IsSeen m c.args.entries.now c.args.scope (children_by m r c.args.mode c.args.least c.args.most (score_by m q)) made =
    subst (λ (n : ℕ). IsSeen m c.args.entries.now n (children_by m r c.args.mode c.args.least c.args.most (score_by m q)) made) (sym c.if-scope-ne0.false) (c.in_ok-with_children-in-Some.ensures.seen (score_by m q) hits) in
    subst (λ (r : Option ℕ). IsFound m c.args.entries.now c.args.scope (has_child r q c.args.mode c.args.least c.args.most) made) (sym c.in-Some.is)
    (found_children m c.args.entries.now c.args.scope r q c.args.mode c.args.least c.args.most made seen)

pub has_child-returns-in_ok-leaves-in-None : goal.has_child-returns-in_ok-leaves-in-None
has_child-returns-in_ok-leaves-in-None t c =
    let m = c.args.mapping.now in
    subst (λ (r : Option ℕ). IsFound m c.args.entries.now c.args.scope (has_child r c.args.query.now c.args.mode c.args.least c.args.most) c.in_ok-leaves-in-None.field-0) (sym c.in-None.is)
    (found_none m c.args.entries.now c.args.scope (has_child None c.args.query.now c.args.mode c.args.least c.args.most) c.in_ok-leaves-in-None.field-0 (λ live o here. refl) (c.in_ok-leaves-in-None.ensures.seen match_none refl tt))

pub has_parent-returns-then-scope-ne0 : goal.has_parent-returns-then-scope-ne0
has_parent-returns-then-scope-ne0 t c =
    let m = c.args.mapping.now in
    subst (λ (p : Option ℕ). IsFound m c.args.entries.now c.args.scope (has_parent p c.args.query.now c.args.score c.args.boost) c.in_ok-leaves-in-Some.field-0) (sym c.in-Some.is)
    (found_parentless m c.args.entries.now c.args.scope c.in-Some.parent c.args.query.now c.args.score c.args.boost c.in_ok-leaves-in-Some.field-0 c.if-scope-ne0.true (c.in_ok-leaves-in-Some.ensures.seen match_none refl tt))

pub has_parent-returns-in_ok-with_parent-in-Some : goal.has_parent-returns-in_ok-with_parent-in-Some
has_parent-returns-in_ok-with_parent-in-Some t c =
    let m = c.args.mapping.now in
    let q = c.args.query.now in
    let p = c.in-Some.parent in
    let made = c.in_ok-with_parent-in-Some.field-0 in
    let hits : IsFound m c.args.entries.now 0 q c.in_ok-hits-in-Some.hits = subst (λ (q : Clause). IsFound m c.args.entries.now 0 q c.in_ok-hits-in-Some.hits) c.get.ensures c.in_ok-hits-in-Some.ensures in
    let seen : IsSeen m c.args.entries.now c.args.scope (parent_by m p c.args.score c.args.boost (score_by m q)) made =
    subst (λ (n : ℕ). IsSeen m c.args.entries.now n (parent_by m p c.args.score c.args.boost (score_by m q)) made) (sym c.if-scope-ne0.false) (c.in_ok-with_parent-in-Some.ensures (score_by m q) hits) in
    subst (λ (p : Option ℕ). IsFound m c.args.entries.now c.args.scope (has_parent p q c.args.score c.args.boost) made) (sym c.in-Some.is)
    (found_parent m c.args.entries.now c.args.scope p q c.args.score c.args.boost made seen)

pub has_parent-returns-in_ok-leaves-in-None : goal.has_parent-returns-in_ok-leaves-in-None
has_parent-returns-in_ok-leaves-in-None t c =
    let m = c.args.mapping.now in
    subst (λ (p : Option ℕ). IsFound m c.args.entries.now c.args.scope (has_parent p c.args.query.now c.args.score c.args.boost) c.in_ok-leaves-in-None.field-0) (sym c.in-None.is)
    (found_none m c.args.entries.now c.args.scope (has_parent None c.args.query.now c.args.score c.args.boost) c.in_ok-leaves-in-None.field-0 (λ live o here. refl) (c.in_ok-leaves-in-None.ensures.seen match_none refl tt))

pub bool_of-returns-then-no_clauses : goal.bool_of-returns-then-no_clauses
bool_of-returns-then-no_clauses t c =
    let a = and_parts (is_empty c.args.must.now) (is_empty c.args.filter.now && (is_empty c.args.should.now && is_empty c.args.must_not.now)) (sym c.no_clauses.ensures ∙ c.if-no_clauses.true) in
    let b = and_parts (is_empty c.args.filter.now) (is_empty c.args.should.now && is_empty c.args.must_not.now) a.1 in
    let d = and_parts (is_empty c.args.should.now) (is_empty c.args.must_not.now) b.1 in
    found_everything c.args.mapping.now c.args.entries.now c.args.scope c.args.must.now c.args.filter.now c.args.should.now c.args.must_not.now c.args.least c.in_ok-leaves.field-0 a.0 b.0 d.0 d.1
    (c.in_ok-leaves.ensures.seen match_all refl tt)

pub bool_of-returns-in_ok-folded : goal.bool_of-returns-in_ok-folded
bool_of-returns-in_ok-folded t c =
    let m = c.args.mapping.now in
    let view = c.args.entries.now in
    let n = c.args.scope in
    let all = whatever (leaf_score m match_all 0) in
    let must = folded_by Both m (clauses_of c.args.must.now) all in
    let filter = folded_by Kept m (clauses_of c.args.filter.now) must in
    let left = required_by m view n c.args.must.now c.args.filter.now c.args.should.now c.args.must_not.now c.args.least in
    let one : IsSeen m view n must c.in_ok-hits.hits =
    subst (λ (cs : List Clause). IsSeen m view n (folded_by Both m (clauses_of cs) all) c.in_ok-hits.hits) c.as_slice.ensures (c.in_ok-hits.ensures.seen all (c.in_ok-all.ensures.seen match_all refl tt)) in
    let two : IsSeen m view n filter c.in_ok-hits-2.hits =
    subst (λ (cs : List Clause). IsSeen m view n (folded_by Kept m (clauses_of cs) must) c.in_ok-hits-2.hits) c.as_slice-2.ensures (c.in_ok-hits-2.ensures.seen must one) in
    let three : IsSeen m view n left c.in_ok-hits-3.hits =
    subst (λ (cs : List Clause). IsSeen m view n (folded_by Without m (clauses_of cs) filter) c.in_ok-hits-3.hits) c.as_slice-3.ensures (c.in_ok-hits-3.ensures.seen filter two) in
    found_plain m view n c.args.must.now c.args.filter.now c.args.should.now c.args.must_not.now c.args.least c.in_ok-folded.field-0
    (some_clauses (is_empty c.args.must.now) (is_empty c.args.filter.now) (is_empty c.args.should.now) (is_empty c.args.must_not.now) (sym c.no_clauses.ensures ∙ c.if-no_clauses.false))
    (sym c.wanted-wanted.ensures ∙ c.if-wanted-eq0.true)
    (subst (λ (cs : List Clause). IsSeen m view n (folded_by Plus m (clauses_of cs) left) c.in_ok-folded.field-0) c.as_slice-should.ensures (c.in_ok-folded.ensures.seen left three))

pub bool_of-returns-in_ok-asked : goal.bool_of-returns-in_ok-asked
bool_of-returns-in_ok-asked t c =
    let m = c.args.mapping.now in
    let view = c.args.entries.now in
    let n = c.args.scope in
    let all = whatever (leaf_score m match_all 0) in
    let must = folded_by Both m (clauses_of c.args.must.now) all in
    let filter = folded_by Kept m (clauses_of c.args.filter.now) must in
    let left = required_by m view n c.args.must.now c.args.filter.now c.args.should.now c.args.must_not.now c.args.least in
    let one : IsSeen m view n must c.in_ok-hits.hits =
    subst (λ (cs : List Clause). IsSeen m view n (folded_by Both m (clauses_of cs) all) c.in_ok-hits.hits) c.as_slice.ensures (c.in_ok-hits.ensures.seen all (c.in_ok-all.ensures.seen match_all refl tt)) in
    let two : IsSeen m view n filter c.in_ok-hits-2.hits =
    subst (λ (cs : List Clause). IsSeen m view n (folded_by Kept m (clauses_of cs) must) c.in_ok-hits-2.hits) c.as_slice-2.ensures (c.in_ok-hits-2.ensures.seen must one) in
    let three : IsSeen m view n left c.in_ok-hits-3.hits =
    subst (λ (cs : List Clause). IsSeen m view n (folded_by Without m (clauses_of cs) filter) c.in_ok-hits-3.hits) c.as_slice-3.ensures (c.in_ok-hits-3.ensures.seen filter two) in
    found_asked m view n c.args.must.now c.args.filter.now c.args.should.now c.args.must_not.now c.args.least c.in_ok-asked.field-0 c.wanted-wanted.result
    (some_clauses (is_empty c.args.must.now) (is_empty c.args.filter.now) (is_empty c.args.should.now) (is_empty c.args.must_not.now) (sym c.no_clauses.ensures ∙ c.if-no_clauses.false))
    (sym c.wanted-wanted.ensures)
    (subst (λ (cs : List Clause). IsSeen m view n (asked_by m (clauses_of cs) c.wanted-wanted.result left) c.in_ok-asked.field-0) c.as_slice-should.ensures (c.in_ok-asked.ensures left three))

pub folded-returns-then-is_nothing-clause-seen : goal.folded-returns-then-is_nothing-clause-seen
folded-returns-then-is_nothing-clause-seen t c = λ given is.
    folded_nothing c.args.mapping.now c.args.entries.now c.args.scope c.args.rule (clauses_of (map clause_of c.args.queries.now)) given c.args.hits (sym c.narrows.ensures ∙ c.if-narrows.true) (sym c.is_nothing.ensures ∙ c.if-is_nothing.true) is

pub folded-returns-in_ok-folded-in-len1-up-clause-seen : goal.folded-returns-in_ok-folded-in-len1-up-clause-seen
folded-returns-in_ok-folded-in-len1-up-clause-seen t c = λ given is.
    let m = c.args.mapping.now in
    let own = score_by m (clause_of c.query-item.result) in
    subst (λ (cs : Clauses). IsSeen m c.args.entries.now c.args.scope (folded_by c.args.rule m cs given) c.in_ok-folded-in-len1-up.field-0) (sym (clauses_parts c.args.queries.now c.query-item.result (omega (arith, c.in-len1-up.len_at_least)) c.query-item.is))
    (c.in_ok-folded-in-len1-up.ensures.seen (paired_by c.args.rule given own) (c.in_ok-hits-in-len1-up.ensures.seen m c.args.scope given own is c.in_ok-own-in-len1-up.ensures))

pub asked-returns-then-is_nothing : goal.asked-returns-then-is_nothing
asked-returns-then-is_nothing t c = λ given is.
    asked_nothing c.args.mapping.now c.args.entries.now c.args.scope (clauses_of (map clause_of c.args.queries.now)) c.args.wanted given c.args.hits (sym c.is_nothing.ensures ∙ c.if-is_nothing.true) is

pub asked-returns-then-wanted-eq1 : goal.asked-returns-then-wanted-eq1
asked-returns-then-wanted-eq1 t c = λ given is.
    let m = c.args.mapping.now in
    let cs = clauses_of (map clause_of c.args.queries.now) in
    let none = whatever (leaf_score m match_none 0) in
    subst (λ (w : ℕ). IsSeen m c.args.entries.now c.args.scope (asked_by m cs w given) c.in_ok-merges.field-0) (sym c.if-wanted-eq1.true)
    (asked_of_one m c.args.entries.now c.args.scope cs given c.in_ok-merges.field-0
    (c.in_ok-merges.ensures.seen m c.args.scope given (folded_by Either m cs none) is (c.in_ok-sums.ensures.seen none (c.in_ok-none.ensures.seen match_none refl tt))))

pub asked-returns : goal.asked-returns
asked-returns t c = λ given is.
    let m = c.args.mapping.now in
    let n = c.args.scope in
    let cs = map clause_of c.args.queries.now in
    let none = whatever (leaf_score m match_none 0) in
    let sums = folded_by Either m (clauses_of cs) none in
    let counts = folded_by Counted m (clauses_of cs) none in
    asked_of_many m c.args.entries.now n cs c.args.wanted given c.in_ok-merges-2.field-0 c.requires.some
    (omega (arith, c.count_of-count.ensures.few, c.count_of-count.ensures.count, length-map c.args.queries.now clause_of))
    (c.in_ok-merges-2.ensures.seen m n (paired_by Both given sums) counts
    (c.in_ok-hits.ensures.seen m n given sums is (c.in_ok-sums-2.ensures.sums none (c.in_ok-none.ensures.seen match_none refl tt)))
    (c.in_ok-sums-2.ensures.counts none (c.in_ok-no_counts.ensures.seen match_none refl tt)))

pub tallied-returns-in_ok-tallied-in-len1-up-clause-sums : goal.tallied-returns-in_ok-tallied-in-len1-up-clause-sums
tallied-returns-in_ok-tallied-in-len1-up-clause-sums t c = λ given is.
    let m = c.args.mapping.now in
    let own = score_by m (clause_of c.query-item.result) in
    subst (λ (cs : Clauses). IsSeen m c.args.entries.now c.args.scope (folded_by Either m cs given) c.in_ok-tallied-in-len1-up.field-0.0) (sym (clauses_parts c.args.queries.now c.query-item.result (omega (arith, c.in-len1-up.len_at_least)) c.query-item.is))
    (c.in_ok-tallied-in-len1-up.ensures.sums (paired_by Either given own) (c.in_ok-sums-in-len1-up.ensures.seen m c.args.scope given own is c.in_ok-own-in-len1-up.ensures))

pub tallied-returns-in_ok-tallied-in-len1-up-clause-counts : goal.tallied-returns-in_ok-tallied-in-len1-up-clause-counts
tallied-returns-in_ok-tallied-in-len1-up-clause-counts t c = λ given is.
    let m = c.args.mapping.now in
    let own = score_by m (clause_of c.query-item.result) in
    subst (λ (cs : Clauses). IsSeen m c.args.entries.now c.args.scope (folded_by Counted m cs given) c.in_ok-tallied-in-len1-up.field-0.1) (sym (clauses_parts c.args.queries.now c.query-item.result (omega (arith, c.in-len1-up.len_at_least)) c.query-item.is))
    (c.in_ok-tallied-in-len1-up.ensures.counts (paired_by Counted given own) (c.in_ok-counts-in-len1-up.ensures.seen m c.args.scope given own is c.in_ok-own-in-len1-up.ensures))
