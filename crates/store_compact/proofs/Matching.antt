-- The segments that have an extent, in the order of the view or in that of the last commit, are gone through alike.
use Rattle.std.proofs.Common.{◌≡◌, ℕ, ◌+◌, ◌==◌, ◌<◌, ◌≤◌, ◌⊎◌, inl, inr, cond, nat_lt, Bool, true, false, ◌||◌, List, [], ◌∷◌, map, filter, count_by, Option, None, Some, refl, sym, ◌∙◌, ap, subst, arith}
use Rattle.std.specs.List.{All, AllByRecursion, list_any}
use Rattle.std.proofs.lemmas.Bool.{eq-eqb, eqb-true, false≢true, ltb-false, ltb-true, ne_eqb, or_right}
use Rattle.std.proofs.lemmas.List.Elements.{All-head, All-tail}
use Rattle.std.proofs.lemmas.List.Sums.{sum_by-cons}
use Rattle.std.proofs.lemmas.Option.{none-some}
use Rattle.extent_pool.specs.Extents.{AreDisjoint, keeps}
use Rattle.extent_pool.specs.Placing.{NamedExtent, last_before, later_of}
use Rattle.extent_pool.specs.declared.extent.Extent.{Extent}
use Rattle.segment.specs.Live.{EntryState}
use Rattle.store_text.specs.declared.header.Side.{Side}
use Rattle.commit_store.specs.declared.known.KnownSegment.{KnownSegment}
use Rattle.commit_store.specs.Known.{StoreState, AreNamed, IsStore, entry_of, known_extents}
use Rattle.commit_store.specs.Preparing.{PlannedSegment, extents_left, has_id, known_as, planned, planned_as}
use Rattle.store_compact.specs.Compacting.{ids_of, kept_segments, named_of, placed_of}
use Rattle.store_compact.specs.Moves.{befores, with_before}
use Rattle.store_compact.proofs.Candidates.{some_once}
use Rattle.store_compact.proofs.Ids.{HasNot, HaveIds, have_ids}

-- ---- lists with the same elements

abbrev Among : NamedExtent → List NamedExtent → Type 0
Among it [] = ⊥
Among it (own ∷ named) = (own ≡ it) ⊎ Among it named

among_all : (P : NamedExtent → Type 0) (it : NamedExtent) (named : List NamedExtent) → AllByRecursion P named → Among it named → P it
among_all P it [] all there = absurd there
among_all P it (own ∷ named) all (inl same) = subst P same all.0
among_all P it (own ∷ named) all (inr there) = among_all P it named all.1 there

-- the last of these before a place
abbrev IsLast : ℕ → List NamedExtent → Option NamedExtent → Type 0
IsLast place named None = AllByRecursion (λ (it : NamedExtent). place ≤ it.extent.at) named
IsLast place named (Some best) = Among best named × (best.extent.at < place) × AllByRecursion (λ (it : NamedExtent). it.extent.at < place → it.extent.at ≤ best.extent.at) named

weaker : (place one other : ℕ) (named : List NamedExtent) → one ≤ other → AllByRecursion (λ (it : NamedExtent). it.extent.at < place → it.extent.at ≤ one) named
    → AllByRecursion (λ (it : NamedExtent). it.extent.at < place → it.extent.at ≤ other) named
weaker place one other [] less all = tt
weaker place one other (it ∷ named) less all = (λ before. omega (arith, all.0 before, less), weaker place one other named less all.1)

none_below : (place at : ℕ) (named : List NamedExtent) → AllByRecursion (λ (it : NamedExtent). place ≤ it.extent.at) named
    → AllByRecursion (λ (it : NamedExtent). it.extent.at < place → it.extent.at ≤ at) named
none_below place at [] all = tt
none_below place at (it ∷ named) all = (λ before. absurd (omega (arith, all.0, before)), none_below place at named all.1)

later_is : (place : ℕ) (first : NamedExtent) (named : List NamedExtent) (best : Option NamedExtent) → IsLast place named best → IsLast place (first ∷ named) (later_of place first best)
later_is place first named None last = by_less (nat_lt first.extent.at place) refl
  where
    by_less : (b : Bool) → nat_lt first.extent.at place ≡ b → IsLast place (first ∷ named) (cond b (Some first) None)
    by_less true less = (inl refl, ltb-true first.extent.at place less, (λ before. omega arith, none_below place first.extent.at named last))
    by_less false less = (ltb-false first.extent.at place less, last)
later_is place first named (Some best) last = by_both (nat_lt first.extent.at place) (nat_lt best.extent.at first.extent.at) refl refl
  where
    by_both : (b c : Bool) → nat_lt first.extent.at place ≡ b → nat_lt best.extent.at first.extent.at ≡ c → IsLast place (first ∷ named) (cond b (cond c (Some first) (Some best)) (Some best))
    by_both true true less more = (
      inl refl,
      ltb-true first.extent.at place less,
      (λ before. omega arith, weaker place best.extent.at first.extent.at named (let e = ltb-true best.extent.at first.extent.at more in omega (arith, e)) last.2),
    )
    by_both true false less more = (inr last.0, last.1, (λ before. ltb-false best.extent.at first.extent.at more, last.2))
    by_both false c less more = (inr last.0, last.1, (λ before. absurd (omega (arith, before, ltb-false first.extent.at place less)), last.2))

is_last : (place : ℕ) (named : List NamedExtent) → IsLast place named (last_before place named)
is_last place [] = tt
is_last place (first ∷ named) = later_is place first named (last_before place named) (is_last place named)

-- no two begin at the same byte
abbrev HaveOwnPlaces : List NamedExtent → Type 0
HaveOwnPlaces named = (one other : NamedExtent) → Among one named → Among other named → one.extent.at ≡ other.extent.at → one ≡ other

same_last : (place : ℕ) (ones others : List NamedExtent) (one other : Option NamedExtent) → AllByRecursion (λ (it : NamedExtent). Among it others) ones
    → AllByRecursion (λ (it : NamedExtent). Among it ones) others → HaveOwnPlaces others → IsLast place ones one → IsLast place others other → one ≡ other
same_last place ones others None None to from own last is = refl
same_last place ones others None (Some other) to from own last is =
    absurd (omega (arith, is.1, among_all (λ (it : NamedExtent). place ≤ it.extent.at) other ones last (among_all (λ (it : NamedExtent). Among it ones) other others from is.0)))
same_last place ones others (Some one) None to from own last is =
    absurd (omega (arith, last.1, among_all (λ (it : NamedExtent). place ≤ it.extent.at) one others is (among_all (λ (it : NamedExtent). Among it others) one ones to last.0)))
same_last place ones others (Some one) (Some other) to from own last is =
    let there : Among one others = among_all (λ (it : NamedExtent). Among it others) one ones to last.0 in
    let here : Among other ones = among_all (λ (it : NamedExtent). Among it ones) other others from is.0 in
    let up = among_all (λ (it : NamedExtent). it.extent.at < place → it.extent.at ≤ other.extent.at) one others is.2 there last.1 in
    let down = among_all (λ (it : NamedExtent). it.extent.at < place → it.extent.at ≤ one.extent.at) other ones last.2 here is.1 in
    ap Some (own one other there is.0 (omega (arith, up, down)))

-- ---- the extents that a store knows begin at different bytes

abbrev mark : Bool → ℕ
mark it = cond it 1 0

one_more : (test : Extent → Bool) (first : Extent) (others : List Extent) → count_by test (first ∷ others) ≡ cond (test first) 1 0 + count_by test others
one_more test first others = sum_by-cons (λ (it : Extent). cond (test it) 1 0) first others

tail_disjoint : (extent : Extent) (extents : List Extent) → AreDisjoint (extent ∷ extents) → AreDisjoint extents
tail_disjoint extent extents disjoint = record {
  one_at_most = λ byte. let same = one_more (keeps byte) extent extents in let one = disjoint.one_at_most byte in omega (arith, same, one);
}

begins_inside : (extent : Extent) (byte : ℕ) → 1 ≤ extent.len → extent.at ≡ byte → keeps byte extent ≡ true
begins_inside extent byte some same = subst (λ (n : ℕ). keeps n extent ≡ true) same (own extent some)
  where
    own : (it : Extent) → 1 ≤ it.len → keeps it.at it ≡ true
    own it some = grind arith

none_pass : (test : Extent → Bool) (known : List KnownSegment) → count_by test (known_extents known) ≤ 0 → AllByRecursion (λ (it : NamedExtent). test it.extent ≡ false) (map named_of known)
none_pass test [] none = tt
none_pass test (own ∷ known) none =
    (by_test (test own.extent) refl, none_pass test known (omega (arith, none, one_more test own.extent (known_extents known))))
  where
    by_test : (it : Bool) → test own.extent ≡ it → test own.extent ≡ false
    by_test true same = absurd (omega (arith, none, one_more test own.extent (known_extents known), ap mark same))
    by_test false same = same

some_named : (known : List KnownSegment) → AllByRecursion (λ (it : Extent). 1 ≤ it.len) (known_extents known) → AllByRecursion (λ (it : NamedExtent). 1 ≤ it.extent.len) (map named_of known)
some_named [] some = tt
some_named (own ∷ known) some = (some.0, some_named known some.1)

not_behind : (first : KnownSegment) (known : List KnownSegment) (it : NamedExtent) → AllByRecursion (λ (own : Extent). 1 ≤ own.len) (known_extents (first ∷ known)) → AreDisjoint (known_extents (first ∷ known))
    → Among it (map named_of known) → it.extent.at ≡ first.extent.at → ⊥
not_behind first known it some disjoint there same =
    let byte : ℕ = first.extent.at in
    let here : keeps byte first.extent ≡ true = begins_inside first.extent byte some.0 refl in
    let none = none_pass (keeps byte) known (omega (arith, disjoint.one_at_most byte, one_more (keeps byte) first.extent (known_extents known), ap mark here)) in
    false≢true (sym (among_all (λ (own : NamedExtent). keeps byte own.extent ≡ false) it (map named_of known) none there)
    ∙ begins_inside it.extent byte (among_all (λ (own : NamedExtent). 1 ≤ own.extent.len) it (map named_of known) (some_named known some.1) there) same)

own_places : (known : List KnownSegment) → AllByRecursion (λ (it : Extent). 1 ≤ it.len) (known_extents known) → AreDisjoint (known_extents known) → HaveOwnPlaces (map named_of known)
own_places [] some disjoint one other here there same = absurd here
own_places (first ∷ known) some disjoint one other (inl is) (inl is_other) same = sym is ∙ is_other
own_places (first ∷ known) some disjoint one other (inl is) (inr there) same =
    absurd (not_behind first known other some disjoint there (sym same ∙ ap (λ (it : NamedExtent). it.extent.at) (sym is)))
own_places (first ∷ known) some disjoint one other (inr here) (inl is) same =
    absurd (not_behind first known one some disjoint here (same ∙ ap (λ (it : NamedExtent). it.extent.at) (sym is)))
own_places (first ∷ known) some disjoint one other (inr here) (inr there) same =
    own_places known some.1 (tail_disjoint first.extent (known_extents known) disjoint) one other here there same

all_to_recursion : (P : Extent → Type 0) (extents : List Extent) → All P extents → AllByRecursion P extents
all_to_recursion P [] all = tt
all_to_recursion P (extent ∷ extents) all = (All-head P extent extents all, all_to_recursion P extents (All-tail P extent extents all))

known_places : (side : Option Side) (known : List KnownSegment) (named : List Extent) → AreNamed side known named → AllByRecursion (λ (it : Extent). 1 ≤ it.len) named → AreDisjoint named
    → HaveOwnPlaces (map named_of known)
known_places None known named are some disjoint =
    subst (λ (it : List KnownSegment). HaveOwnPlaces (map named_of it)) (sym are.0) (λ one other here there same. absurd here)
known_places (Some side) known [] are some disjoint = absurd are
known_places (Some side) known (extent ∷ named) (inl none) some disjoint =
    subst (λ (it : List KnownSegment). HaveOwnPlaces (map named_of it)) (sym none) (λ one other here there same. absurd here)
known_places (Some side) known (extent ∷ named) (inr same) some disjoint =
    own_places known (subst (AllByRecursion (λ (it : Extent). 1 ≤ it.len)) (sym same) some.1) (subst AreDisjoint (sym same) (tail_disjoint extent named disjoint))

store_places : (store : StoreState) → IsStore store → HaveOwnPlaces (kept_segments store)
store_places store is = known_places store.side store.known store.named is.names (all_to_recursion (λ (it : Extent). 1 ≤ it.len) store.named is.places.some) is.places.disjoint

-- ---- the same segments

abbrev is_in : List EntryState → NamedExtent → Bool
is_in view it = list_any (λ (id : ℕ). id == it.id) (ids_of view)

abbrev IsIn : List EntryState → EntryState → Type 0
IsIn view entry = list_any (λ (id : ℕ). id == entry.id) (ids_of view) ≡ true

more_in : (first : EntryState) (view rest : List EntryState) → AllByRecursion (IsIn view) rest → AllByRecursion (IsIn (first ∷ view)) rest
more_in first view [] all = tt
more_in first view (entry ∷ rest) all =
    (or_right (first.id == entry.id) (list_any (λ (id : ℕ). id == entry.id) (ids_of view)) all.0, more_in first view rest all.1)

all_in : (view : List EntryState) → AllByRecursion (IsIn view) view
all_in [] = tt
all_in (entry ∷ view) =
    (ap (λ (b : Bool). b || list_any (λ (id : ℕ). id == entry.id) (ids_of view)) (eq-eqb entry.id entry.id refl), more_in entry view view (all_in view))

-- what is known under an id is among what is known, and has the id
found_there : (known : List KnownSegment) (id : ℕ) (own : KnownSegment) → known_as known id ≡ Some own → Among (named_of own) (map named_of known) × (own.entry.id ≡ id)
found_there [] id own found = absurd (none-some own found)
found_there (first ∷ known) id own found = by_id (has_id id first) refl (found_there known id own)
  where
    by_id : (same : Bool) → has_id id first ≡ same → (known_as known id ≡ Some own → Among (named_of own) (map named_of known) × (own.entry.id ≡ id))
        → Among (named_of own) (map named_of (first ∷ known)) × (own.entry.id ≡ id)
    by_id true same more =
        let is : first ≡ own = some_once first own (ap (λ (b : Bool). cond b (Some first) (known_as known id)) (sym same) ∙ found) in
        (inl (ap named_of is), ap (λ (it : KnownSegment). it.entry.id) (sym is) ∙ eqb-true first.entry.id id same)
    by_id false same more =
        let rest = more (ap (λ (b : Bool). cond b (Some first) (known_as known id)) (sym same) ∙ found) in
        (inr rest.0, rest.1)

passes : (test : NamedExtent → Bool) (it : NamedExtent) (named : List NamedExtent) → test it ≡ true → Among it named → Among it (filter test named)
passes test it [] pass there = absurd there
passes test it (own ∷ named) pass (inl same) =
    subst (λ (b : Bool). Among it (cond b (own ∷ filter test named) (filter test named))) (sym (ap test same ∙ pass)) (inl same)
passes test it (own ∷ named) pass (inr there) = by_test (test own) (passes test it named pass there)
  where
    by_test : (b : Bool) → Among it (filter test named) → Among it (cond b (own ∷ filter test named) (filter test named))
    by_test true among = inr among
    by_test false among = among

-- those in the order of the view are among those in the order of the last commit
to_placed : (store : StoreState) (view rest : List EntryState) (extents : List Extent) → AllByRecursion (IsIn view) rest
    → AllByRecursion (λ (it : NamedExtent). Among it (placed_of store view)) (befores (planned store.known rest extents))
to_placed store view [] extents all = tt
to_placed store view (entry ∷ rest) extents all =
    by_known (known_as store.known entry.id) refl (λ left. to_placed store view rest left all.1)
  where
    by_known : (own : Option KnownSegment) → known_as store.known entry.id ≡ own
        → ((left : List Extent) → AllByRecursion (λ (it : NamedExtent). Among it (placed_of store view)) (befores (planned store.known rest left)))
        → AllByRecursion (λ (it : NamedExtent). Among it (placed_of store view)) (befores (planned_as entry own extents ∷ planned store.known rest (extents_left own extents)))
    by_known None none more = more (extents_left None extents)
    by_known (Some own) found more =
        let there = found_there store.known entry.id own found in (
          passes (is_in view) (named_of own) (kept_segments store)
              (ap (λ (it : ℕ). list_any (λ (id : ℕ). id == it) (ids_of view)) there.1 ∙ all.0) there.0,
          more extents,
        )

first_known : (known : List KnownSegment) → HaveIds (map entry_of known) → (rest : List KnownSegment) → AllByRecursion (λ (it : KnownSegment). known_as known it.entry.id ≡ Some it) rest
    → (first : KnownSegment) → HasNot first.entry.id (map entry_of rest) → AllByRecursion (λ (it : KnownSegment). known_as (first ∷ known) it.entry.id ≡ Some it) rest
first_known known ids [] all first none = tt
first_known known ids (own ∷ rest) all first none =
    (ap (λ (b : Bool). cond b (Some first) (known_as known own.entry.id)) (ne_eqb first.entry.id own.entry.id (λ same. none.0 (sym same))) ∙ all.0, first_known known ids rest all.1 first none.1)

each_known : (known : List KnownSegment) → HaveIds (map entry_of known) → AllByRecursion (λ (it : KnownSegment). known_as known it.entry.id ≡ Some it) known
each_known [] ids = tt
each_known (first ∷ known) ids = (
  ap (λ (b : Bool). cond b (Some first) (known_as known first.entry.id)) (eq-eqb first.entry.id first.entry.id refl),
  first_known known ids.1 known (each_known known ids.1) first ids.0,
)

behind_one : (it : NamedExtent) (id : ℕ) (before : Option Extent) (named : List NamedExtent) → Among it named → Among it (with_before id before named)
behind_one it id None named there = there
behind_one it id (Some extent) named there = inr there

known_before : (known : List KnownSegment) (own : KnownSegment) → known_as known own.entry.id ≡ Some own → (view : List EntryState) (extents : List Extent) → is_in view (named_of own) ≡ true
    → Among (named_of own) (befores (planned known view extents))
known_before known own is [] extents there = absurd (false≢true there)
known_before known own is (entry ∷ view) extents there = by_id (entry.id == own.entry.id) refl there (known_before known own is view)
  where
    by_id : (b : Bool) → (entry.id == own.entry.id) ≡ b → (b || is_in view (named_of own)) ≡ true
        → ((left : List Extent) → is_in view (named_of own) ≡ true → Among (named_of own) (befores (planned known view left)))
        → Among (named_of own) (befores (planned known (entry ∷ view) extents))
    by_id true same some more =
        let found : known_as known entry.id ≡ Some own = ap (known_as known) (eqb-true entry.id own.entry.id same) ∙ is in
        subst (λ (it : Option KnownSegment). Among (named_of own) (befores (planned_as entry it extents ∷ planned known view (extents_left it extents)))) (sym found) (inl refl)
    by_id false same some more =
        let one : PlannedSegment = planned_as entry (known_as known entry.id) extents in
        behind_one (named_of own) one.entry.id one.before (befores (planned known view (extents_left (known_as known entry.id) extents)))
        (more (extents_left (known_as known entry.id) extents) some)

from_placed : (known rest : List KnownSegment) (view : List EntryState) (extents : List Extent) → AllByRecursion (λ (it : KnownSegment). known_as known it.entry.id ≡ Some it) rest
    → AllByRecursion (λ (it : NamedExtent). Among it (befores (planned known view extents))) (filter (is_in view) (map named_of rest))
from_placed known [] view extents all = tt
from_placed known (own ∷ rest) view extents all = by_test (is_in view (named_of own)) refl (from_placed known rest view extents all.1)
  where
    by_test : (b : Bool) → is_in view (named_of own) ≡ b → AllByRecursion (λ (it : NamedExtent). Among it (befores (planned known view extents))) (filter (is_in view) (map named_of rest))
        → AllByRecursion (λ (it : NamedExtent). Among it (befores (planned known view extents))) (cond b (named_of own ∷ filter (is_in view) (map named_of rest)) (filter (is_in view) (map named_of rest)))
    by_test true there more = (known_before known own all.0 view extents there, more)
    by_test false there more = more

placed_among : (store : StoreState) (view : List EntryState) (rest : List NamedExtent) → AllByRecursion (λ (it : NamedExtent). Among it (kept_segments store)) rest
    → AllByRecursion (λ (it : NamedExtent). Among it (kept_segments store)) (filter (is_in view) rest)
placed_among store view [] all = tt
placed_among store view (it ∷ rest) all = by_test (is_in view it) (placed_among store view rest all.1)
  where
    by_test : (b : Bool) → AllByRecursion (λ (own : NamedExtent). Among own (kept_segments store)) (filter (is_in view) rest)
        → AllByRecursion (λ (own : NamedExtent). Among own (kept_segments store)) (cond b (it ∷ filter (is_in view) rest) (filter (is_in view) rest))
    by_test true more = (all.0, more)
    by_test false more = more

wider_among : (first : NamedExtent) (named rest : List NamedExtent) → AllByRecursion (λ (it : NamedExtent). Among it named) rest → AllByRecursion (λ (it : NamedExtent). Among it (first ∷ named)) rest
wider_among first named [] all = tt
wider_among first named (it ∷ rest) all = (inr all.0, wider_among first named rest all.1)

own_among : (named : List NamedExtent) → AllByRecursion (λ (it : NamedExtent). Among it named) named
own_among [] = tt
own_among (it ∷ named) = (inl refl, wider_among it named named (own_among named))

-- the last one before a place is the same in both
pub last_same : (store : StoreState) (view : List EntryState) (extents : List Extent) → IsStore store → (place : ℕ)
    → last_before place (befores (planned store.known view extents)) ≡ last_before place (placed_of store view)
last_same store view extents is place =
    let ones : List NamedExtent = befores (planned store.known view extents) in
    let others : List NamedExtent = placed_of store view in
    let within : AllByRecursion (λ (it : NamedExtent). Among it (kept_segments store)) others = placed_among store view (kept_segments store) (own_among (kept_segments store)) in
    same_last place ones others (last_before place ones) (last_before place others)
    (to_placed store view view extents (all_in view))
    (from_placed store.known store.known view extents (each_known store.known (have_ids (map entry_of store.known) is.ids)))
    (λ one other here there. store_places store is one other (among_all (λ (it : NamedExtent). Among it (kept_segments store)) one others within here)
    (among_all (λ (it : NamedExtent). Among it (kept_segments store)) other others within there))
    (is_last place ones) (is_last place others)
