-- Documents of a scope in a range.
use Rattle.std.proofs.Common.{◌≡◌, ℕ, zero, suc, ◌+◌, ◌-◌, ◌≤◌, ◌==◌, List as Seq, [], ◌∷◌, length, map, filter, get_or, take, drop, Bool, true, false, cond, Some, None, refl, sym, ap, ◌∙◌, arith}
use Rattle.std.proofs.lemmas.Bool.{false≢true}
use Rattle.std.proofs.lemmas.List.{drop-map, get_or-drop, take-map}
use Rattle.std.proofs.lemmas.Option.{same_Some}
use Rattle.std.specs.List.{position_from}
use Rattle.block_bits.specs.Blocks.{documents_of, has_scope}
use Rattle.block_bits.specs.Flags.{is_marked}
use Rattle.block_bits.specs.Places.{next_place}
use Rattle.view_objects.specs.Hits.{count_between}

-- ---- lists

drop_further : {A : Type 0} (j k : ℕ) (xs : Seq A) → drop j (drop k xs) ≡ drop (k + j) xs
drop_further j zero xs = let e : 0 + j ≡ j = omega arith in rw e refl
drop_further zero (suc k) [] = let e : suc k + 0 ≡ suc (k + 0) = omega arith in rw e refl
drop_further (suc j) (suc k) [] = let e : suc k + suc j ≡ suc (k + suc j) = omega arith in rw e refl
drop_further j (suc k) (x ∷ xs) = let e : suc k + j ≡ suc (k + j) = omega arith in rw e (drop_further j k xs)

by_test : {G : Type 0} (t : Bool) → (t ≡ true → G) → (t ≡ false → G) → G
by_test true held failed = held refl
by_test false held failed = failed refl

behind : {X : Type 0} (test : X → Bool) (k : ℕ) (xs : Seq X) (p : ℕ) → position_from test k xs ≡ Some p → k ≤ p
behind test k [] p is = absurd (let no : ⊥ = cc in no)
behind test k (x ∷ xs) p is =
    by_test (test x)
    (λ held. let e : Some k ≡ Some p = rw held at is in omega (arith, same_Some k p e))
    (λ failed. let e : position_from test (k + 1) xs ≡ Some p = rw failed at is in omega (arith, behind test (k + 1) xs p e))

-- ---- documents of a scope

pub next_of_flags : (n from : ℕ) (scopes : Seq ℕ) → next_place is_marked from (documents_of scopes n) ≡ next_place (has_scope n) from scopes
next_of_flags n from scopes = ap (position_from is_marked from) (drop-map (has_scope n) from scopes) ∙ by from (drop from scopes)
  where
    by : (k : ℕ) (ss : Seq ℕ) → position_from is_marked k (map (has_scope n) ss) ≡ position_from (has_scope n) k ss
    by k [] = refl
    by k (s ∷ ss) = ap (λ rest. cond (s == n) (Some k) rest) (by (k + 1) ss)

counted_from : (n k : ℕ) (ss : Seq ℕ) (p : ℕ) → position_from is_marked k (map (has_scope n) ss) ≡ Some p → length (filter (has_scope n) ss) ≡ suc (length (filter (has_scope n) (drop (p + 1 - k) ss)))
counted_from n k [] p is = absurd (let no : ⊥ = cc in no)
counted_from n k (s ∷ ss) p is =
    by_test (s == n)
    (λ held.
    let e : Some k ≡ Some p = rw held at is in
    let one : p + 1 - k ≡ 1 = omega (arith, same_Some k p e) in
    rw (held, one) refl)
    (λ failed.
    let e : position_from is_marked (k + 1) (map (has_scope n) ss) ≡ Some p = rw failed at is in
    let far : k + 1 ≤ p = behind is_marked (k + 1) (map (has_scope n) ss) p e in
    let over : p + 1 - k ≡ suc (p + 1 - (k + 1)) = omega (arith, far) in
    rw (failed, over) (counted_from n (k + 1) ss p e))

none_counted : (n k : ℕ) (ss : Seq ℕ) → position_from is_marked k (map (has_scope n) ss) ≡ None → length (filter (has_scope n) ss) ≡ 0
none_counted n k [] is = refl
none_counted n k (s ∷ ss) is =
    by_test (s == n)
    (λ held. absurd (let e : Some k ≡ None = rw held at is in let no : ⊥ = cc in no))
    (λ failed. let e : position_from is_marked (k + 1) (map (has_scope n) ss) ≡ None = rw failed at is in rw failed (none_counted n (k + 1) ss e))

flags_range : (n from end : ℕ) (scopes : Seq ℕ) → drop from (take end (documents_of scopes n)) ≡ map (has_scope n) (drop from (take end scopes))
flags_range n from end scopes = ap (drop from) (take-map (has_scope n) end scopes) ∙ drop-map (has_scope n) from (take end scopes)

-- one document more is counted
pub count_more : (n from end at : ℕ) (scopes : Seq ℕ) → next_place is_marked from (take end (documents_of scopes n)) ≡ Some at → count_between n from end scopes ≡ suc (count_between n (at + 1) end scopes)
count_more n from end at scopes is =
    let e : position_from is_marked from (map (has_scope n) (drop from (take end scopes))) ≡ Some at = ap (position_from is_marked from) (sym (flags_range n from end scopes)) ∙ is in
    let far : from ≤ at = behind is_marked from (map (has_scope n) (drop from (take end scopes))) at e in
    let on : from + (at + 1 - from) ≡ at + 1 = omega (arith, far) in
    counted_from n from (drop from (take end scopes)) at e
    ∙ ap (λ (l : Seq ℕ). suc (length (filter (has_scope n) l))) (drop_further (at + 1 - from) from (take end scopes) ∙ ap (λ k. drop k (take end scopes)) on)

pub count_none : (n from end : ℕ) (scopes : Seq ℕ) → next_place is_marked from (take end (documents_of scopes n)) ≡ None → count_between n from end scopes ≡ 0
count_none n from end scopes is = none_counted n from (drop from (take end scopes)) (ap (position_from is_marked from) (sym (flags_range n from end scopes)) ∙ is)

-- a scope without documents
pub none_of : (n : ℕ) (scopes : Seq ℕ) → ((doc : ℕ) → get_or (documents_of scopes n) doc false ≡ false) → (from end : ℕ) → count_between n from end scopes ≡ 0
none_of n scopes none from end = by (drop from (take end scopes)) (λ doc. get_at_range doc)
  where
    short : {A : Type 0} (k j : ℕ) (xs : Seq A) (d : A) → (x : A) → get_or (take k xs) j d ≡ x → (x ≡ d → ⊥) → get_or xs j d ≡ x
    short zero j xs d x is other = absurd (other (sym is))
    short (suc k) j [] d x is other = is
    short (suc k) zero (y ∷ xs) d x is other = is
    short (suc k) (suc j) (y ∷ xs) d x is other = short k j xs d x is other

    get_at_range : (doc : ℕ) → get_or (map (has_scope n) (drop from (take end scopes))) doc false ≡ false
    get_at_range doc = by_flag (get_or (map (has_scope n) (drop from (take end scopes))) doc false) refl
      where
        by_flag : (b : Bool) → get_or (map (has_scope n) (drop from (take end scopes))) doc false ≡ b → get_or (map (has_scope n) (drop from (take end scopes))) doc false ≡ false
        by_flag false is = is
        by_flag true is =
            let at : get_or (take end (documents_of scopes n)) (from + doc) false ≡ true =
            sym (get_or-drop from (take end (documents_of scopes n)) doc false) ∙ ap (λ (l : Seq Bool). get_or l doc false) (flags_range n from end scopes) ∙ is in
            let there : get_or (documents_of scopes n) (from + doc) false ≡ true = short end (from + doc) (documents_of scopes n) false true at (λ no. false≢true (sym no)) in
            absurd (false≢true (sym (none (from + doc)) ∙ there))

    by : (ss : Seq ℕ) → ((doc : ℕ) → get_or (map (has_scope n) ss) doc false ≡ false) → length (filter (has_scope n) ss) ≡ 0
    by [] each = refl
    by (s ∷ ss) each = let no : (s == n) ≡ false = each 0 in rw no (by ss (λ doc. each (suc doc)))

pub no_next : (n : ℕ) (scopes : Seq ℕ) → ((doc : ℕ) → get_or (documents_of scopes n) doc false ≡ false) → (from : ℕ) → next_place (has_scope n) from scopes ≡ None
no_next n scopes none from = by from (drop from scopes) (λ doc. ap (λ (l : Seq Bool). get_or l doc false) (sym (drop-map (has_scope n) from scopes)) ∙ get_or-drop from (documents_of scopes n) doc false ∙ none (from + doc))
  where
    by : (k : ℕ) (ss : Seq ℕ) → ((doc : ℕ) → get_or (map (has_scope n) ss) doc false ≡ false) → position_from (has_scope n) k ss ≡ None
    by k [] each = refl
    by k (s ∷ ss) each = let no : (s == n) ≡ false = each 0 in rw no (by (k + 1) ss (λ doc. each (suc doc)))

pub ruleset counts = (count_more, count_none, none_of)

pub ruleset nexts = (next_of_flags, no_next)
