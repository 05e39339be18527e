-- Lines of parents: how they go on, and that one comes back exactly where a relation is its own ancestor.
use Rattle.std.proofs.Common.{◌≡◌, ℕ, zero, suc, ◌+◌, ◌-◌, ◌*◌, ◌<◌, ◌≤◌, List as Seq, [], ◌∷◌, length, refl, sym, ap, ◌∙◌, subst, arith, Bool, true, false, ◌||◌, ◌==◌, Option, Some, None, is_some, option_and_then, slice_get, get_or, inl, inr}
use Rattle.std.proofs.lemmas.Bool.{false≢true, eqb-true, eq-eqb, or_cases, cases_lt}
use Rattle.std.proofs.lemmas.List.{get_or-set_other}
use Rattle.std.proofs.lemmas.Map.Steps.{length-le_from_distinct_below}
use Rattle.std.specs.List.{AllByRecursion, IsDistinct, list_any}
use Rattle.mapping_body.proofs.Booleans.{neither}
use Rattle.mapping_body.proofs.Walks.{split}
use Rattle.mapping_growth.specs.Lines.{AllEnd, Ends, is_ended, marked}
use Rattle.mapping_growth.specs.Relations.{IsAncestor, parent, further, Relation, parent_of, climbed, turns_back}

pub climbed-add : (rs : Seq Relation) (steps more : ℕ) (at : Option ℕ) → climbed more rs (climbed steps rs at) ≡ climbed (steps + more) rs at
climbed-add rs zero more at = let none : zero + more ≡ more = omega arith in rw none refl
climbed-add rs (suc steps) more at = let on : suc steps + more ≡ suc (steps + more) = omega arith in rw on (climbed-add rs steps more (parent_of rs at))

pub climbed-None : (rs : Seq Relation) (steps : ℕ) → climbed steps rs None ≡ None
climbed-None rs zero = refl
climbed-None rs (suc steps) = climbed-None rs steps

-- ---- no relation is its own ancestor

-- so many parents up, one at least
pub record StandsAbove (rs : Seq Relation) (above at : ℕ) : Type 0 where
  pub steps : ℕ
  pub climbs : climbed (suc steps) rs (Some at) ≡ Some above

stands_above : (rs : Seq Relation) (above at : ℕ) → IsAncestor rs above at → StandsAbove rs above at
stands_above rs above at (parent up low e) = record { steps = 0; climbs = e }
stands_above rs above at (further up between low over e) =
    let rest = stands_above rs up between over in
    record { steps = suc rest.steps; climbs = ap (climbed (suc rest.steps) rs) e ∙ rest.climbs }

no_some : (o : Option ℕ) → is_some o ≡ false → o ≡ None
no_some None h = refl
no_some (Some n) h = absurd (false≢true (sym h))

none_at : (L r : ℕ) (all rs : Seq Relation) → list_any (λ x. is_some (climbed L all x.parent)) rs ≡ false → climbed L all (option_and_then (λ x. x.parent) (slice_get rs r)) ≡ None
none_at L r all [] none = climbed-None all L
none_at L zero all (x ∷ rs) none = no_some (climbed L all x.parent) (neither (is_some (climbed L all x.parent)) (list_any (λ y. is_some (climbed L all y.parent)) rs) none).0
none_at L (suc r) all (x ∷ rs) none = none_at L r all rs (neither (is_some (climbed L all x.parent)) (list_any (λ y. is_some (climbed L all y.parent)) rs) none).1

-- round and round
mul_one_more : (n k : ℕ) → suc n * k ≡ k + n * k
mul_one_more n k = omega arith

rounds : (rs : Seq Relation) (r k n : ℕ) → climbed k rs (Some r) ≡ Some r → climbed (n * k) rs (Some r) ≡ Some r
rounds rs r k zero turn = let e : 0 * k ≡ 0 = omega arith in rw e refl
rounds rs r k (suc n) turn =
    let e : suc n * k ≡ k + n * k = mul_one_more n k in
    rw e (sym (climbed-add rs k (n * k) (Some r)) ∙ ap (climbed (n * k) rs) turn ∙ rounds rs r k n turn)

enough : (n k : ℕ) → n ≤ n * suc k
enough n k = grind arith

pub never_ends : (rs : Seq Relation) (r m : ℕ) → climbed m rs (Some r) ≡ None → IsAncestor rs r r → ⊥
never_ends rs r m ends over =
    let loop = stands_above rs r r over in
    let back : climbed (m * suc loop.steps) rs (Some r) ≡ Some r = rounds rs r (suc loop.steps) m loop.climbs in
    let least = enough m loop.steps in
    let parts : m * suc loop.steps ≡ m + (m * suc loop.steps - m) = omega (arith, least) in
    let past : climbed (m * suc loop.steps) rs (Some r) ≡ None =
    ap (λ n. climbed n rs (Some r)) parts ∙ sym (climbed-add rs m (m * suc loop.steps - m) (Some r))
    ∙ ap (climbed (m * suc loop.steps - m) rs) ends ∙ climbed-None rs (m * suc loop.steps - m) in
    let never : None ≡ Some r = sym past ∙ back in
    cc

pub not_itself : (rs : Seq Relation) (r : ℕ) → turns_back rs ≡ false → IsAncestor rs r r → ⊥
not_itself rs r none over = never_ends rs r (suc (length rs)) (none_at (length rs) r rs rs none) over

-- ---- and a line that is longer than there are relations comes back

-- the relations on a line, so many at most
abbrev line : ℕ → Seq Relation → Option ℕ → Seq ℕ
line zero rs at = []
line (suc k) rs None = []
line (suc k) rs (Some a) = a ∷ line k rs (parent_of rs (Some a))

long : (k : ℕ) (rs : Seq Relation) (at : Option ℕ) (x : ℕ) → climbed k rs at ≡ Some x → length (line k rs at) ≡ k
long zero rs at x e = refl
long (suc k) rs None x e = let never : None ≡ Some x = sym (climbed-None rs k) ∙ e in cc
long (suc k) rs (Some a) x e = ap suc (long k rs (parent_of rs (Some a)) x e)

record Stands (rs : Seq Relation) (at : Option ℕ) (k q : ℕ) : Type 0 where
  steps : ℕ
  few : steps < k
  here : climbed steps rs at ≡ Some q

stands : (k : ℕ) (rs : Seq Relation) (at : Option ℕ) (q : ℕ) → list_any (λ n. q == n) (line k rs at) ≡ true → Stands rs at k q
stands zero rs at q h = absurd (false≢true h)
stands (suc k) rs None q h = absurd (false≢true h)
stands (suc k) rs (Some a) q h =
    elim (or_cases (q == a) (list_any (λ n. q == n) (line k rs (parent_of rs (Some a)))) h) [
      | inl same ↦ record { steps = 0; few = omega arith; here = ap Some (sym (eqb-true q a same)) }
      | inr more ↦
          let rest = stands k rs (parent_of rs (Some a)) q more in
          record { steps = suc rest.steps; few = omega (arith, rest.few); here = rest.here }
    ]

past_end : (rs : Seq Relation) (q : ℕ) → length rs ≤ q → option_and_then (λ (r : Relation). r.parent) (slice_get rs q) ≡ None
past_end [] q h = refl
past_end (r ∷ rs) zero h = absurd (omega arith)
past_end (r ∷ rs) (suc q) h = past_end rs q (omega arith)

in_range : (rs : Seq Relation) (q m x : ℕ) → climbed (suc m) rs (Some q) ≡ Some x → q < length rs
in_range rs q m x e =
    elim (cases_lt q (length rs)) [
      | inl less ↦ less
      | inr past ↦
          let never : None ≡ Some x = sym (climbed-None rs m) ∙ sym (ap (climbed m rs) (past_end rs q past)) ∙ e in
          cc
    ]

ancestor_by : (j : ℕ) (rs : Seq Relation) (a q : ℕ) (o : Option ℕ) → parent_of rs (Some a) ≡ o → climbed j rs o ≡ Some q → IsAncestor rs q a
ancestor_by j rs a q None e c = let never : None ≡ Some q = sym (climbed-None rs j) ∙ c in cc
ancestor_by zero rs a q (Some b) e c = parent q a (e ∙ c)
ancestor_by (suc j) rs a q (Some b) e c = further q b a (ancestor_by j rs b q (parent_of rs (Some b)) refl c) e

or_true : (b : Bool) → (b || true) ≡ true
or_true true = refl
or_true false = refl

apart : (a : ℕ) (xs : Seq ℕ) → ((q : ℕ) → list_any (λ n. q == n) xs ≡ true → (a == q) ≡ false) → AllByRecursion (λ (y : ℕ). (a == y) ≡ false) xs
apart a [] other = tt
apart a (x ∷ xs) other = (
  other x (rw (eq-eqb x x refl) refl),
  apart a xs (λ q there. other q (rw there (or_true (q == x)))),
)

distinct : (k : ℕ) (rs : Seq Relation) (at : Option ℕ) → ((r : ℕ) → IsAncestor rs r r → ⊥) → IsDistinct (λ a b. a == b) (line k rs at)
unfolding IsDistinct
distinct zero rs at founded = tt
distinct (suc k) rs None founded = tt
distinct (suc k) rs (Some a) founded = (
  apart a (line k rs (parent_of rs (Some a))) (λ q there.
      let up = stands k rs (parent_of rs (Some a)) q there in
      split (a == q)
      (λ same.
      let is : q ≡ a = sym (eqb-true a q same) in
      absurd (founded a (subst (λ (n : ℕ). IsAncestor rs n a) is (ancestor_by up.steps rs a q (parent_of rs (Some a)) refl up.here))))
      (λ other. other)),
  distinct k rs (parent_of rs (Some a)) founded,
)

record Goes (L : ℕ) (all rs : Seq Relation) : Type 0 where
  at : ℕ
  top : ℕ
  goes : climbed L all (option_and_then (λ (x : Relation). x.parent) (slice_get rs at)) ≡ Some top

some_is : (o : Option ℕ) → is_some o ≡ true → (x : ℕ) × (o ≡ Some x)
some_is None h = absurd (false≢true h)
some_is (Some x) h = (x, refl)

goes_on : (L : ℕ) (all rs : Seq Relation) → list_any (λ x. is_some (climbed L all x.parent)) rs ≡ true → Goes L all rs
goes_on L all [] h = absurd (false≢true h)
goes_on L all (r ∷ rs) h =
    elim (or_cases (is_some (climbed L all r.parent)) (list_any (λ x. is_some (climbed L all x.parent)) rs) h) [
      | inl here ↦ let up = some_is (climbed L all r.parent) here in record { at = 0; top = up.0; goes = up.1 }
      | inr more ↦ let rest = goes_on L all rs more in record { at = suc rest.at; top = rest.top; goes = rest.goes }
    ]

too_long : (rs : Seq Relation) (r x : ℕ) → ((n : ℕ) → IsAncestor rs n n → ⊥) → climbed (suc (length rs)) rs (Some r) ≡ Some x → ⊥
too_long rs r x founded e =
    let all : Seq ℕ = line (suc (length rs)) rs (Some r) in
    let many = long (suc (length rs)) rs (Some r) x e in
    let few = length-le_from_distinct_below (line (suc (length rs)) rs (Some r)) (length rs) (distinct (suc (length rs)) rs (Some r) founded) (λ q there.
    let up = stands (suc (length rs)) rs (Some r) q there in
    let parts : suc (length rs) ≡ up.steps + suc (length rs - up.steps) = omega (arith, up.few) in
    let on : climbed (suc (length rs - up.steps)) rs (Some q) ≡ Some x =
    ap (climbed (suc (length rs - up.steps)) rs) (sym up.here) ∙ climbed-add rs up.steps (suc (length rs - up.steps)) (Some r) ∙ ap (λ n. climbed n rs (Some r)) (sym parts) ∙ e in
    in_range rs q (length rs - up.steps) x on) in
    absurd (omega (arith, many, few))

pub founded_ends : (rs : Seq Relation) → ((r : ℕ) → IsAncestor rs r r → ⊥) → turns_back rs ≡ false
founded_ends rs founded =
    split (turns_back rs)
    (λ turns. let up = goes_on (length rs) rs rs turns in absurd (too_long rs up.at up.top founded up.goes))
    (λ ends. ends)

-- ---- what the marks show

pub turns_from : (rs : Seq Relation) (r x : ℕ) → climbed (suc (length rs)) rs (Some r) ≡ Some x → turns_back rs ≡ true
turns_from rs r x e =
    split (turns_back rs)
    (λ turns. turns)
    (λ ends. let never : None ≡ Some x = sym (none_at (length rs) r rs rs ends) ∙ e in cc)

pub all_end : (rs : Seq Relation) → ((r : ℕ) → r < length rs → Ends rs (Some r)) → turns_back rs ≡ false
all_end rs ends =
    founded_ends rs (λ r over.
    let up = stands_above rs r r over in
    let end = ends r (in_range rs r up.steps r up.climbs) in
    never_ends rs r end.steps end.over over)

pub climbed_more : (rs : Seq Relation) (steps : ℕ) (at : Option ℕ) → climbed (steps + 1) rs at ≡ parent_of rs (climbed steps rs at)
climbed_more rs steps at = sym (climbed-add rs steps 1 at)

-- no relation is marked
pub none_marked : (rs : Seq Relation) (marks : Seq Bool) → ((n : ℕ) → get_or marks n false ≡ false) → AllEnd rs marks
none_marked rs marks none = record { ends = λ n marked. absurd (false≢true (sym (none n) ∙ marked)) }

-- the line from a relation ends where it comes to the end of one
pub ended_there : (rs : Seq Relation) (marks : Seq Bool) (r steps : ℕ) (at : Option ℕ) → AllEnd rs marks → climbed steps rs (Some r) ≡ at → is_ended marks at ≡ true → Ends rs (Some r)
ended_there rs marks r steps None all e ended = record { steps = steps; over = e }
ended_there rs marks r steps (Some n) all e ended =
    let rest = all.ends n ended in
    record { steps = steps + rest.steps; over = sym (climbed-add rs steps rest.steps (Some r)) ∙ ap (climbed rest.steps rs) e ∙ rest.over }

pub ends_on : (rs : Seq Relation) (at : Option ℕ) → Ends rs at → Ends rs (parent_of rs at)
ends_on rs at ends =
    let one : suc ends.steps ≡ ends.steps + 1 = omega arith in
    record { steps = ends.steps; over = ap (λ (n : ℕ). climbed n rs at) one ∙ climbed_more rs ends.steps at ∙ ap (parent_of rs) ends.over }

pub all_end_marked : (rs : Seq Relation) (marks : Seq Bool) (at : Option ℕ) → AllEnd rs marks → Ends rs at → AllEnd rs (marked marks at)
all_end_marked rs marks None all ends = all
all_end_marked rs marks (Some k) all ends = record {
  ends = λ n met.
      split (n == k)
      (λ same. subst (λ (j : ℕ). Ends rs (Some j)) (sym (eqb-true n k same)) ends)
      (λ other. all.ends n (rw (get_or-set_other marks k n true false (λ e. false≢true (sym other ∙ eq-eqb n k e))) at met));
}

-- after one step more than there are relations the line still goes on
pub turns_at : (rs : Seq Relation) (n r steps : ℕ) (at : Option ℕ) → length rs ≡ n → n < steps → steps ≤ n + 1 → climbed steps rs (Some r) ≡ at → is_some at ≡ true → turns_back rs ≡ true
turns_at rs n r steps None long more most e some = absurd (false≢true some)
turns_at rs n r steps (Some x) long more most e some =
    let all : steps ≡ suc (length rs) = omega (arith, long) in
    turns_from rs r x (ap (λ k. climbed k rs (Some r)) (sym all) ∙ e)
