-- Paths as lists of their names: one above another, and a name joined to a path.
use Rattle.std.proofs.Common.{◌≡◌, ℕ, zero, suc, ◌+◌, ◌<◌, List, [], ◌∷◌, ◌++◌, length, drop, refl, sym, ap, ◌∙◌, arith, Bool, true, false, not, ◌&&◌, ◌==◌}
use Rattle.std.proofs.lemmas.Bool.{false≢true, eqb-true, eq-eqb}
use Rattle.mapping_body.specs.Names.{IsProperPrefix, before_name, dot, goes_on, has_dot, is_name, is_property_name, joined, lies_above, names_of, split}
use Rattle.mapping_body.proofs.Booleans.{neither}
use Rattle.mapping_body.proofs.Walks.{split as by_test}

before_append : (byte : ℕ) (ns ms : List (List ℕ)) → 0 < length ns → before_name byte (ns ++ ms) ≡ before_name byte ns ++ ms
before_append byte [] ms h = absurd (omega arith)
before_append byte (n ∷ ns) ms h = refl

split_some : (path : List ℕ) → 0 < length (split path)
split_some [] = omega arith
split_some (x ∷ path) =
    by_test (x == dot)
    (λ yes. rw yes (omega arith))
    (λ no. rw no (elim (split path) as (λ ns. 0 < length (before_name x ns)) [ [] ↦ omega arith | n ∷ ns ↦ omega arith ]))

split_dot : (above rest : List ℕ) → split (above ++ dot ∷ rest) ≡ split above ++ split rest
split_dot [] rest = refl
split_dot (x ∷ above) rest =
    by_test (x == dot)
    (λ yes. rw yes (ap (λ (ns : List (List ℕ)). [] ∷ ns) (split_dot above rest)))
    (λ no. rw no (ap (before_name x) (split_dot above rest) ∙ before_append x (split above) (split rest) (split_some above)))

goes_parts : (above path : List ℕ) → goes_on above path ≡ true → path ≡ above ++ dot ∷ drop (length above + 1) path
goes_parts [] [] h = absurd (false≢true h)
goes_parts [] (x ∷ path) h = grind (arith, h)
goes_parts (a ∷ above) [] h = absurd (false≢true h)
goes_parts (a ∷ above) (x ∷ path) h = grind (arith, h, goes_parts above path)

pub above_names : (above path : List ℕ) → lies_above above path ≡ true → IsProperPrefix (names_of above) (names_of path)
above_names [] [] h = absurd (false≢true h)
above_names [] (x ∷ path) h = record { further = split (x ∷ path); some = split_some (x ∷ path); is = refl }
above_names (a ∷ above) [] h = absurd (false≢true h)
above_names (a ∷ above) (x ∷ path) h = record {
  further = split (drop (length (a ∷ above) + 1) (x ∷ path));
  some = split_some (drop (length (a ∷ above) + 1) (x ∷ path));
  is = ap split (goes_parts (a ∷ above) (x ∷ path) h) ∙ split_dot (a ∷ above) (drop (length (a ∷ above) + 1) (x ∷ path));
}

-- ---- and back

alone_of : (ns : List (List ℕ)) (f : List ℕ) (fs : List (List ℕ)) → 0 < length ns → [] ∷ [] ≡ ns ++ f ∷ fs → false ≡ true
alone_of [] f fs h e = absurd (omega arith)
alone_of (n ∷ []) f fs h e = absurd (cc)
alone_of (n ∷ m ∷ ns) f fs h e = absurd (cc)

before_same : (x a : ℕ) (ns ms : List (List ℕ)) → 0 < length ns → 0 < length ms → before_name x ns ≡ before_name a ms → (x ≡ a) × (ns ≡ ms)
before_same x a [] ms h k e = absurd (omega arith)
before_same x a (n ∷ ns) [] h k e = absurd (omega arith)
before_same x a (n ∷ ns) (m ∷ ms) h k e = (cc, cc)

some_more : (ns : List (List ℕ)) (f : List ℕ) (fs : List (List ℕ)) → 0 < length (ns ++ f ∷ fs)
some_more [] f fs = omega arith
some_more (n ∷ ns) f fs = omega arith

nothing_further : (further : List (List ℕ)) → 0 < length further → [] ≡ further → false ≡ true
nothing_further [] h e = absurd (omega arith)
nothing_further (f ∷ fs) h e = absurd (cc)

none_from : (ns further : List (List ℕ)) → 0 < length ns → [] ≡ ns ++ further → false ≡ true
none_from [] further h e = absurd (omega arith)
none_from (n ∷ ns) further h e = absurd (cc)

headed : (x : ℕ) (ns : List (List ℕ)) (rest : List (List ℕ)) → before_name x ns ≡ [] ∷ rest → false ≡ true
headed x [] rest e = absurd (cc)
headed x (n ∷ ns) rest e = absurd (cc)

alone : (above f : List ℕ) (fs : List (List ℕ)) → [] ∷ [] ≡ split above ++ f ∷ fs → false ≡ true
alone above f fs e = alone_of (split above) f fs (split_some above) e

goes_back : (above path : List ℕ) (f : List ℕ) (fs : List (List ℕ)) → split path ≡ split above ++ f ∷ fs → goes_on above path ≡ true
goes_back [] [] f fs e = absurd (cc)
goes_back [] (x ∷ path) f fs e =
    by_test (x == dot)
    (λ yes. yes)
    (λ no. absurd (false≢true (headed x (split path) (f ∷ fs) (rw no at e))))
goes_back (a ∷ above) [] f fs e = absurd (false≢true (alone (a ∷ above) f fs e))
goes_back (a ∷ above) (x ∷ path) f fs e =
    by_test (a == dot)
    (λ first. by_test (x == dot)
    (λ second.
    let rest : split path ≡ split above ++ f ∷ fs = ap (drop 1) (rw (first, second) at e) in
    let same : a ≡ x = eqb-true a dot first ∙ sym (eqb-true x dot second) in
    rw (same, eq-eqb x x refl) (goes_back above path f fs rest))
    (λ other. absurd (false≢true (headed x (split path) (split above ++ f ∷ fs) (rw (first, other) at e)))))
    (λ no. by_test (x == dot)
    (λ second. absurd (false≢true (headed a (split above ++ f ∷ fs) (split path) (before_append a (split above) (f ∷ fs) (split_some above) ∙ sym (rw (no, second) at e)))))
    (λ other.
    let both : before_name x (split path) ≡ before_name a (split above ++ f ∷ fs) = (rw (no, other) at e) ∙ sym (before_append a (split above) (f ∷ fs) (split_some above)) in
    let parts = before_same x a (split path) (split above ++ f ∷ fs) (split_some path) (some_more (split above) f fs) both in
    rw (sym parts.0, eq-eqb x x refl) (goes_back above path f fs parts.1)))

with_further : (above path : List ℕ) (further : List (List ℕ)) → 0 < length further → split path ≡ split above ++ further → goes_on above path ≡ true
with_further above path [] h e = absurd (omega arith)
with_further above path (f ∷ fs) h e = goes_back above path f fs e

pub names_above : (above path : List ℕ) → IsProperPrefix (names_of above) (names_of path) → lies_above above path ≡ true
names_above [] [] on = absurd (false≢true (nothing_further on.further on.some on.is))
names_above [] (x ∷ path) on = refl
names_above (a ∷ above) [] on = absurd (false≢true (none_from (split (a ∷ above)) on.further (split_some (a ∷ above)) on.is))
names_above (a ∷ above) (x ∷ path) on = with_further (a ∷ above) (x ∷ path) on.further on.some on.is

-- ---- a name joined to a path

split_one : (name : List ℕ) → has_dot name ≡ false → split name ≡ name ∷ []
split_one [] h = refl
split_one (x ∷ name) h =
    let parts = neither (x == dot) (has_dot name) h in
    rw parts.0 (ap (before_name x) (split_one name parts.1))

dotless : (named dotted : Bool) → (named && not dotted) ≡ true → dotted ≡ false
dotless true true h = absurd (false≢true h)
dotless true false h = refl
dotless false dotted h = absurd (false≢true h)

named_one : (name : List ℕ) → is_property_name name ≡ true → names_of name ≡ name ∷ []
named_one [] h = absurd (false≢true h)
named_one (x ∷ name) h = split_one (x ∷ name) (dotless (is_name (x ∷ name)) (has_dot (x ∷ name)) h)

pub joined_names : (path name : List ℕ) → is_property_name name ≡ true → names_of (joined path name) ≡ names_of path ++ name ∷ []
joined_names [] name h = named_one name h
joined_names (x ∷ path) name h =
    split_dot (x ∷ path) name ∙ ap (λ (ns : List (List ℕ)). split (x ∷ path) ++ ns) (split_one name (dotless (is_name name) (has_dot name) h))
