-- Of a list of parts none of which is refused, none of its pieces is, and no part.
use Rattle.std.proofs.Common.{◌≡◌, ℕ, List as Seq, [], ◌∷◌, ◌++◌, Option, Some, None, refl}
use Rattle.std.specs.List.{AllByRecursion}
use Rattle.std.specs.Option.{option_or}
use Rattle.tree_json.specs.Value.{JsonValue}
use Rattle.mapping.specs.Mapping.{Mapping}
use Rattle.search_form.specs.Texts.{AreTexts}
use Rattle.search_form.specs.declared.form.Form.{Form}
use Rattle.search_walk.specs.Fault.{fault_of, first_fault}
use Rattle.search_walk.specs.Node.{Node}
use Rattle.search_walk.specs.declared.refusal.SearchRefusal.{SearchRefusal}

pub none_of : (o p : Option SearchRefusal) → option_or o p ≡ None → (o ≡ None) × (p ≡ None)
none_of None p e = (refl, e)
none_of (Some x) p e = cc

none_from : (o p : Option SearchRefusal) → o ≡ None → p ≡ None → option_or o p ≡ None
none_from None p e f = f
none_from (Some x) p e f = e

abbrev pub node : Option ℕ → ℕ → Form → JsonValue → Node
node scope level form v = record { scope = scope; level = level; form = form; value = v }

abbrev pub HaveTexts : Seq Node → Type 0
HaveTexts nodes = AllByRecursion (λ (n : Node). AreTexts n.value) nodes

-- none of the parts is refused, and all their texts are texts
pub record Clean (m : Mapping) (nodes : Seq Node) : Type 0 where
  pub free : first_fault m nodes ≡ None
  pub texts : HaveTexts nodes

pub clean_head : (m : Mapping) (n : Node) (nodes : Seq Node) → Clean m (n ∷ nodes) → (fault_of m n ≡ None) × Clean m nodes
clean_head m n nodes e =
    let parts = none_of (fault_of m n) (first_fault m nodes) e.free in
    (parts.0, record { free = parts.1; texts = e.texts.1 })

free_parts : (m : Mapping) (xs ys : Seq Node) → first_fault m (xs ++ ys) ≡ None → (first_fault m xs ≡ None) × (first_fault m ys ≡ None)
free_parts m [] ys e = (refl, e)
free_parts m (n ∷ xs) ys e =
    let first = none_of (fault_of m n) (first_fault m (xs ++ ys)) e in
    let more = free_parts m xs ys first.1 in
    (none_from (fault_of m n) (first_fault m xs) first.0 more.0, more.1)

text_parts : (xs ys : Seq Node) → HaveTexts (xs ++ ys) → HaveTexts xs × HaveTexts ys
text_parts [] ys t = (tt, t)
text_parts (n ∷ xs) ys t = let more = text_parts xs ys t.1 in ((t.0, more.0), more.1)

pub clean_parts : (m : Mapping) (xs ys : Seq Node) → Clean m (xs ++ ys) → Clean m xs × Clean m ys
clean_parts m xs ys e =
    let free = free_parts m xs ys e.free in
    let texts = text_parts xs ys e.texts in
    (record { free = free.0; texts = texts.0 }, record { free = free.1; texts = texts.1 })
