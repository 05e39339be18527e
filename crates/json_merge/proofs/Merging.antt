-- Merging name by name makes what `Merged` says, where names ascend.
use Rattle.std.proofs.Common.{◌≡◌, ℕ, ◌+◌, ◌≤◌, ◌<◌, List as Seq, [], ◌∷◌, ◌++◌, length, map, refl, sym, ap, ◌∙◌, subst, arith, true, false, Less, Equal, Greater, Ordering, nat_cmp}
use Rattle.std.proofs.lemmas.Cmp.{nat_list_cmp_total}
use Rattle.std.proofs.lemmas.Bool.{true≢false}
use Rattle.std.proofs.lemmas.Map.Text.{is_eq-slice_cmp}
use Rattle.std.proofs.lemmas.Slice.Eq.{bytes_eq-Decides}
use Rattle.std.specs.Cmp.Lexicographic.{slice_cmp}
use Rattle.std.specs.List.{AllByRecursion}
use Rattle.std.specs.List.Sorted.{IsStrictlySortedBy}
use Rattle.std.specs.Ordering.{match_ordering, ordering_reverse, is_lt, is_eq}
use Rattle.tree_json.specs.Names.{IsAscending}
use Rattle.tree_json.specs.Value.{JsonValue, Members, no_members, member, members_of, value_size, members_size}
use Rattle.tree_json.specs.View.{view, entries}
use Rattle.tree_json.specs.declared.value.Json.{Json}
use Rattle.json_merge.specs.Merged.{merged, merged_members, with_member}
use Rattle.json_merge.specs.Coming.{Entry, is_before, is_named, Comes, behind, AreAfter, Ascend, Carries, Joins}

abbrev Pair : Type 0
Pair = Seq ℕ × Json

abbrev pub compared : Seq ℕ → Seq ℕ → Ordering
compared = slice_cmp nat_cmp

pub reversed : (x y : Seq ℕ) (r : Ordering) → compared x y ≡ r → compared y x ≡ ordering_reverse r
reversed x y r h = nat_list_cmp_total.antisymm y x ∙ ap ordering_reverse h

pub equal_from : (r : Ordering) → is_eq r ≡ true → r ≡ Equal
equal_from Less h = cc
equal_from Equal h = cc
equal_from Greater h = cc

equal_itself : (k : Seq ℕ) → compared k k ≡ Equal
equal_itself k = equal_from (compared k k) (is_eq-slice_cmp k k ∙ (bytes_eq-Decides k k).1 refl)

-- what comes after a name comes after those before it
pub after_through : (l k : Seq ℕ) (ms : Members) → compared l k ≡ Less → AreAfter k ms → AreAfter l ms
after_through l k no_members less all = tt
after_through l k (member j d ms) less all = (nat_list_cmp_total.trans l k j less all.0, after_through l k ms less all.1)

-- a change of later names leaves the first member where it is
past_one : (l k : Seq ℕ) (d : JsonValue) (change : JsonValue → JsonValue) (new : JsonValue) (ls : Members) → compared l k ≡ Less → with_member k change new (member l d ls) ≡ member l d (with_member k change new ls)
past_one l k d change new ls less = rw (reversed l k Less less) refl

past_first : (l : Seq ℕ) (d : JsonValue) (cs ls : Members) → AreAfter l cs → merged_members cs (member l d ls) ≡ member l d (merged_members cs ls)
past_first l d no_members ls all = refl
past_first l d (member k v cs) ls all =
    ap (λ (live : Members). merged_members cs live) (past_one l k d (merged v) v ls all.0) ∙ past_first l d cs (with_member k (merged v) v ls) all.1

-- ---- one member after the other

-- a member more that was found stands before what is behind
behind_more : (ps after : Seq Pair) (p : Pair) (ms : Members) → after ≡ ps ++ p ∷ [] → behind (entries after) ms ≡ behind (entries ps) (member p.0 (view p.1) ms)
behind_more ps after p ms e = ap (λ (all : Seq Pair). behind (entries all) ms) e ∙ snoc ps
  where
    snoc : (ps : Seq Pair) → behind (entries (ps ++ p ∷ [])) ms ≡ behind (entries ps) (member p.0 (view p.1) ms)
    snoc [] = refl
    snoc (x ∷ ps) = ap (λ (rest : Members). member x.0 (view x.1) rest) (snoc ps)

pub behind_all : (es : Seq Entry) → behind es no_members ≡ members_of es
behind_all [] = refl
behind_all (x ∷ es) = ap (λ (rest : Members). member x.0 x.1 rest) (behind_all es)

pub rest_more : (found after coming left : Seq Pair) (p : Pair) (whole : Members) → behind (entries found) (members_of (entries coming)) ≡ whole → after ≡ found ++ p ∷ [] → coming ≡ p ∷ left → behind (entries after) (members_of (entries left)) ≡ whole
rest_more found after coming left p whole h a c =
    behind_more found after p (members_of (entries left)) a ∙ ap (λ (ps : Seq Pair). behind (entries found) (members_of (entries ps))) (sym c) ∙ h

pub ruleset rests = (behind_all, rest_more)

pub carries_none : (name : Seq ℕ) (found coming : Seq Entry) → Carries name found coming found coming
carries_none name found coming = record { same = λ v rest all. refl }

pub carries_more : (name : Seq ℕ) (p : Pair) (found coming : Seq Entry) (found_then after : Seq Pair) (coming_then left : Seq Entry) → Carries name found coming (entries found_then) coming_then → Comes name (p.0, view p.1) coming_then left → after ≡ found_then ++ p ∷ [] → Carries name found coming (entries after) left
carries_more name p found coming found_then after coming_then left h c a =
    record {
      same = λ v rest all.
          behind_more found_then after p (merged_members (member name v rest) (members_of left)) a
          ∙ ap (λ (ms : Members). behind (entries found_then) ms) (sym (past_first p.0 (view p.1) (member name v rest) (members_of left) (c.less, after_through p.0 name rest c.less all)))
          ∙ ap (λ (es : Seq Entry). behind (entries found_then) (merged_members (member name v rest) (members_of es))) (sym c.is)
          ∙ h.same v rest all;
    }

pub ruleset carries = (carries_none, carries_more)

-- ---- the member under a name is put

-- what comes has no name up to this one, so that the changed member stands in front
fresh : (name : Seq ℕ) (v : JsonValue) (rest : Members) (coming : Seq Entry) → AreAfter name rest → is_before name coming ≡ false → is_named name coming ≡ false
    → merged_members (member name v rest) (members_of coming) ≡ member name v (merged_members rest (members_of coming))
fresh name v rest [] all h k = past_first name v rest no_members all
fresh name v rest (e ∷ es) all h k = by (compared e.0 name) refl
  where
    by : (r : Ordering) → compared e.0 name ≡ r → merged_members (member name v rest) (members_of (e ∷ es)) ≡ member name v (merged_members rest (members_of (e ∷ es)))
    by Less same = absurd (true≢false (sym (ap is_lt same) ∙ h))
    by Equal same = absurd (true≢false (sym (ap is_eq same) ∙ (is_eq-slice_cmp e.0 name ∙ k)))
    by Greater same =
        ap (λ (live : Members). merged_members rest live) (rw (reversed e.0 name Greater same) refl) ∙ past_first name v rest (members_of (e ∷ es)) all

-- what comes has this name first, and is merged
former : (name : Seq ℕ) (v d : JsonValue) (rest : Members) (left : Seq Entry) → AreAfter name rest
    → merged_members (member name v rest) (members_of ((name, d) ∷ left)) ≡ member name (merged v d) (merged_members rest (members_of left))
former name v d rest left all =
    let same : compared name name ≡ Equal = equal_itself name in
    ap (λ (live : Members). merged_members rest live) (rw same refl) ∙ past_first name (merged v d) rest (members_of left) all

pub joins_new : (name : Seq ℕ) (value : Json) (found coming : Seq Entry) (found_then after : Seq Pair) (coming_then left : Seq Entry) → Carries name found coming (entries found_then) coming_then → left ≡ coming_then → is_before name coming_then ≡ false → is_named name coming_then ≡ false → after ≡ found_then ++ (name, value) ∷ [] → Joins name (view value) found coming (entries after) left
joins_new name value found coming found_then after coming_then left h l b n a =
    record {
      same = λ rest all.
          behind_more found_then after (name, value) (merged_members rest (members_of left)) a
          ∙ ap (λ (es : Seq Entry). behind (entries found_then) (member name (view value) (merged_members rest (members_of es)))) l
          ∙ ap (λ (ms : Members). behind (entries found_then) ms) (sym (fresh name (view value) rest coming_then all b n))
          ∙ h.same (view value) rest all;
    }

pub joins_former : (name : Seq ℕ) (v d : JsonValue) (value : Json) (found coming : Seq Entry) (found_then after : Seq Pair) (coming_then left : Seq Entry) → Carries name found coming (entries found_then) coming_then → coming_then ≡ (name, d) ∷ left → view value ≡ merged v d → after ≡ found_then ++ (name, value) ∷ [] → Joins name v found coming (entries after) left
joins_former name v d value found coming found_then after coming_then left h e m a =
    record {
      same = λ rest all.
          behind_more found_then after (name, value) (merged_members rest (members_of left)) a
          ∙ ap (λ (w : JsonValue). behind (entries found_then) (member name w (merged_members rest (members_of left)))) m
          ∙ ap (λ (ms : Members). behind (entries found_then) ms) (sym (former name v d rest left all))
          ∙ ap (λ (es : Seq Entry). behind (entries found_then) (merged_members (member name v rest) (members_of es))) (sym e)
          ∙ h.same v rest all;
    }

pub ruleset joins = (joins_new, joins_former)

-- ---- the whole change

-- what a change and a live value make, where so much was found
pub record Makes (found coming changes : Seq Entry) (whole : Members) : Type 0 where
  pub same : behind found (merged_members (members_of changes) (members_of coming)) ≡ whole
  pub ascending : IsAscending changes

after_from : (k : Seq ℕ) (es : Seq Entry) → AllByRecursion (λ y. compared k y ≡ Less) (map (λ m. m.0) es) → AreAfter k (members_of es)
after_from k [] all = tt
after_from k (e ∷ es) all = (all.0, after_from k es all.1)

all_from : (k : Seq ℕ) (es : Seq Entry) → AreAfter k (members_of es) → AllByRecursion (λ y. compared k y ≡ Less) (map (λ m. m.0) es)
all_from k [] all = tt
all_from k (e ∷ es) all = (all.0, all_from k es all.1)

pub ascend_from : (es : Seq Entry) → IsAscending es → Ascend (members_of es)
unfolding IsStrictlySortedBy
ascend_from [] up = tt
ascend_from (e ∷ es) up = (after_from e.0 es up.0, ascend_from es up.1)

ascending_from : (es : Seq Entry) → Ascend (members_of es) → IsAscending es
unfolding IsStrictlySortedBy
ascending_from [] up = tt
ascending_from (e ∷ es) up = (all_from e.0 es up.0, ascending_from es up.1)

-- ---- the names of what is made ascend

after_with : (l k : Seq ℕ) (change : JsonValue → JsonValue) (new : JsonValue) (ms : Members) → compared l k ≡ Less → AreAfter l ms → AreAfter l (with_member k change new ms)
after_with l k change new no_members less all = (less, tt)
after_with l k change new (member j d ms) less all = by (compared k j) (after_with l k change new ms less all.1)
  where
    by : (r : Ordering) → AreAfter l (with_member k change new ms) → AreAfter l (match_ordering r (member k new (member j d ms)) (member j (change d) ms) (member j d (with_member k change new ms)))
    by Less rest = (less, all)
    by Equal rest = all
    by Greater rest = (all.0, rest)

pub ascend_with : (k : Seq ℕ) (change : JsonValue → JsonValue) (new : JsonValue) (ms : Members) → Ascend ms → Ascend (with_member k change new ms)
ascend_with k change new no_members up = (tt, tt)
ascend_with k change new (member j d ms) up = by (compared k j) refl (ascend_with k change new ms up.1)
  where
    by : (r : Ordering) → compared k j ≡ r → Ascend (with_member k change new ms) → Ascend (match_ordering r (member k new (member j d ms)) (member j (change d) ms) (member j d (with_member k change new ms)))
    by Less same rest = ((same, after_through k j ms same up.0), up)
    by Equal same rest = up
    by Greater same rest = (after_with j k change new ms (reversed k j Greater same) up.0, rest)

ascend_merged : (cs ms : Members) → Ascend ms → Ascend (merged_members cs ms)
ascend_merged no_members ms up = up
ascend_merged (member k v cs) ms up = ascend_merged cs (with_member k (merged v) v ms) (ascend_with k (merged v) v ms up)

pub ascending_merged : (found : Seq Entry) (cs ls : Seq Entry) → IsAscending ls → members_of found ≡ merged_members (members_of cs) (members_of ls) → IsAscending found
ascending_merged found cs ls up e =
    ascending_from found (subst Ascend (sym e) (ascend_merged (members_of cs) (members_of ls) (ascend_from ls up)))

pub makes_first : (coming changes : Seq Entry) → IsAscending changes → Makes [] coming changes (merged_members (members_of changes) (members_of coming))
makes_first coming changes up = record { same = refl; ascending = up }

pub makes_more : (name : Seq ℕ) (v : JsonValue) (found coming found_then coming_then changes rest : Seq Entry) (whole : Members) → Makes found coming changes whole → changes ≡ (name, v) ∷ rest → Joins name v found coming found_then coming_then → Makes found_then coming_then rest whole
unfolding IsStrictlySortedBy
makes_more name v found coming found_then coming_then changes rest whole m e j =
    let up : IsAscending ((name, v) ∷ rest) = subst IsAscending e m.ascending in
    record {
      same = j.same (members_of rest) (after_from name rest up.0)
          ∙ ap (λ (es : Seq Entry). behind found (merged_members (members_of es) (members_of coming))) (sym e)
          ∙ m.same;
      ascending = up.1;
    }

pub makes_end : (found coming changes : Seq Entry) (whole : Members) → changes ≡ [] → Makes found coming changes whole → behind found (members_of coming) ≡ whole
makes_end found coming changes whole e m =
    ap (λ (es : Seq Entry). behind found (merged_members (members_of es) (members_of coming))) (sym e) ∙ m.same

pub nothing_left : (ps : Seq Pair) → length ps ≡ 0 → entries ps ≡ []
nothing_left [] h = refl
nothing_left (p ∷ ps) h = absurd (omega arith)

pub ruleset joining = (makes_first, makes_more, makes_end, nothing_left, ascending_merged)

some_size : (ms : Members) → 0 < members_size ms
some_size no_members = omega arith
some_size (member k d ms) = omega (arith, some_size ms)

-- a value in a list of members is smaller than they are
pub size_first : (name : Seq ℕ) (v : JsonValue) (changes rest : Seq Entry) → changes ≡ (name, v) ∷ rest → (value_size v < members_size (members_of changes)) × (members_size (members_of rest) ≤ members_size (members_of changes))
size_first name v changes rest e = rw e (size_parts v (members_of rest))
  where
    size_parts : (v : JsonValue) (ms : Members) → (value_size v < value_size v + members_size ms) × (members_size ms ≤ value_size v + members_size ms)
    size_parts v ms = (omega (arith, some_size ms), omega arith)
