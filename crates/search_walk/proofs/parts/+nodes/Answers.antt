use Rattle.std.proofs.Common.{◌≡◌, ◌∙◌, ◌+◌, ◌<◌, ℕ, suc, List as Seq, [], ◌∷◌, drop, drop-cons, get_or, length, Option, sym, ap, arith}
use Rattle.std.proofs.lemmas.List.{drop_all}
use Rattle.tree_json.specs.Value.{value_size, elements_of, members_size, members_of}
use Rattle.tree_json.specs.View.{view, values, entries}
use Rattle.tree_json.specs.declared.value.Json.{Json}
use Rattle.mapping.specs.Mapping.{Mapping}
use Rattle.search_form.specs.Sizes.{member_falls}
use Rattle.search_form.specs.declared.form.Form.{Form}
use Rattle.search_form.specs.Form.{form_at}
use Rattle.search_walk.specs.Node.{level_under, nodes_at, nodes_in, nodes_among}
use Rattle.search_walk.specs.Walk.{Walk, walk_of, walked}
use Rattle.search_walk.proofs.Walked.{walked_none, walked_on}
use Rattle.search_walk.proofs.parts.+nodes.Goals as goal

-- what is left at an index is the item there and what is behind it
left : {T : Type 0} (xs : Seq T) (i : ℕ) (x : T) → i < length xs → x ≡ get_or xs i x → drop i xs ≡ x ∷ drop (i + 1) xs
left xs i x h is =
    let next : suc i ≡ i + 1 = omega arith in
    drop-cons xs i x h ∙ ap (λ y. y ∷ drop (suc i) xs) (sym is) ∙ ap (λ (n : ℕ). x ∷ drop n xs) next

element_more : (m : Mapping) (scope : Option ℕ) (level : ℕ) (form : Form) (xs : Seq Json) (i : ℕ) (d : Json) (v w : Walk) → i < length xs → d ≡ get_or xs i d
    → w ≡ walked m v (nodes_at m scope level form (view d))
    → walked m w (nodes_in m scope level form (elements_of (values (drop (i + 1) xs)))) ≡ walked m v (nodes_in m scope level form (elements_of (values (drop i xs))))
element_more m scope level form xs i d v w h is on =
    let rest = nodes_in m scope level form (elements_of (values (drop (i + 1) xs))) in
    ap (λ x. walked m x rest) on ∙ walked_on m v (nodes_at m scope level form (view d)) rest
    ∙ ap (λ (ys : Seq Json). walked m v (nodes_in m scope level form (elements_of (values ys)))) (sym (left xs i d h is))

member_more : (m : Mapping) (scope : Option ℕ) (level : ℕ) (form : Form) (xs : Seq (Seq ℕ × Json)) (i : ℕ) (d : Seq ℕ × Json) (v w : Walk) → i < length xs → d ≡ get_or xs i d
    → w ≡ walked m v (nodes_at m scope (level_under form (form_at form d.0) level) (form_at form d.0) (view d.1))
    → walked m w (nodes_among m scope level form (members_of (entries (drop (i + 1) xs)))) ≡ walked m v (nodes_among m scope level form (members_of (entries (drop i xs))))
member_more m scope level form xs i d v w h is on =
    let rest = nodes_among m scope level form (members_of (entries (drop (i + 1) xs))) in
    ap (λ x. walked m x rest) on ∙ walked_on m v (nodes_at m scope (level_under form (form_at form d.0) level) (form_at form d.0) (view d.1)) rest
    ∙ ap (λ (ys : Seq (Seq ℕ × Json)). walked m v (nodes_among m scope level form (members_of (entries ys)))) (sym (left xs i d h is))

pub nodes_among-nodes_at-requires : goal.nodes_among-nodes_at-requires
nodes_among-nodes_at-requires t c =
    let e = member_falls c.args.members.now c.members.name-index c.members-item.result (omega arith) in
    let f : value_size (view c.members-item.result.1) < members_size (members_of (entries c.args.members.now)) = rw (← c.members-item.is) at e in
    omega (arith, f)

pub nodes_in-elements-preserved : goal.nodes_in-elements-preserved
nodes_in-elements-preserved t c =
    element_more c.args.mapping.now c.args.scope c.args.level c.args.form c.args.elements.now c.elements.element-index c.element-item.result
    (walk_of c.elements.walk) (walk_of c.nodes_at.new.walk) (omega arith) c.element-item.is c.in_ok-nodes_at.ensures
    ∙ c.elements.invariant

pub nodes_in-returns : goal.nodes_in-returns
nodes_in-returns t c =
    let none : drop c.elements.element-index c.args.elements.now ≡ [] = drop_all c.elements.element-index c.args.elements.now (omega arith) in
    sym (walked_none c.args.mapping.now (walk_of c.elements.walk)) ∙ (rw none at c.elements.invariant)

pub nodes_among-members-preserved : goal.nodes_among-members-preserved
nodes_among-members-preserved t c =
    let on : walk_of c.nodes_at.new.walk ≡ walked c.args.mapping.now (walk_of c.members.walk)
    (nodes_at c.args.mapping.now c.args.scope (level_under c.args.form (form_at c.args.form c.members-item.result.0) c.args.level) (form_at c.args.form c.members-item.result.0) (view c.members-item.result.1))
    = rw (c.level_under.ensures, c.form_at-part.ensures, c.as_slice.ensures.bytes) at c.in_ok-nodes_at.ensures in
    member_more c.args.mapping.now c.args.scope c.args.level c.args.form c.args.members.now c.members.name-index c.members-item.result
    (walk_of c.members.walk) (walk_of c.nodes_at.new.walk) (omega arith) c.members-item.is on
    ∙ c.members.invariant

pub nodes_among-returns : goal.nodes_among-returns
nodes_among-returns t c =
    let none : drop c.members.name-index c.args.members.now ≡ [] = drop_all c.members.name-index c.args.members.now (omega arith) in
    sym (walked_none c.args.mapping.now (walk_of c.members.walk)) ∙ (rw none at c.members.invariant)
