-- The next entry of an object is the closest above the last name.
use Rattle.std.proofs.Common.{◌≡◌, ◌<◌, ◌≤◌, ◌+◌, ◌&&◌, ℕ, zero, suc, List, [], ◌∷◌, refl, sym, ap, subst, ◌∙◌, arith, inl, inr, Bool, true, false, if◌then◌else◌, Option, Some, None, Ordering, Less, Equal, Greater, nat_cmp, is_lt, length, map, drop, get_or}
use Rattle.std.proofs.lemmas.Bool.{cases_lt}
use Rattle.std.proofs.lemmas.Bool.Decides.{nat_tests}
use Rattle.std.proofs.lemmas.List.{get_or-map}
use Rattle.std.proofs.lemmas.Cmp.{nat_list_cmp_total, tied_itself}
use Rattle.std.proofs.lemmas.Grind.{common_steps}
use Rattle.std.specs.Cmp.Lexicographic.{slice_cmp}
use Rattle.std.specs.Ordering.{ordering_reverse}
use Rattle.reply_text.specs.Object.{Entry, by_order, placed, placed_all, in_order}
use Rattle.std.proofs.Math.Seq.{drop-cons}
use Rattle.reply_text.specs.Next.{is_less, is_above, nearer, closer, closest, above, rise, ArePassed, IsNext}

-- ---- names

compared : List ℕ → List ℕ → Ordering
compared one other = slice_cmp nat_cmp one other

same_bytes : (one other : List ℕ) → slice_cmp nat_cmp one other ≡ Equal → one ≡ other
same_bytes [] [] e = refl
same_bytes [] (y ∷ ys) e = cc
same_bytes (x ∷ xs) [] e = cc
same_bytes (x ∷ xs) (y ∷ ys) e = grind (arith, nat_tests, same_bytes xs ys)

not_itself : (name : List ℕ) → is_less name name ≡ false
not_itself name = ap is_lt (tied_itself nat_list_cmp_total name)

reversed : (one other : List ℕ) (o : Ordering) → slice_cmp nat_cmp one other ≡ o → slice_cmp nat_cmp other one ≡ ordering_reverse o
reversed one other o e = nat_list_cmp_total.antisymm other one ∙ ap ordering_reverse e

less_from : (o : Ordering) → is_lt o ≡ true → o ≡ Less
less_from Less e = refl
less_from Equal e = cc
less_from Greater e = cc

less_trans : (a b c : List ℕ) → is_less a b ≡ true → is_less b c ≡ true → is_less a c ≡ true
less_trans a b c h k = ap is_lt (nat_list_cmp_total.trans a b c (less_from (slice_cmp nat_cmp a b) h) (less_from (slice_cmp nat_cmp b c) k))

less_back : (a b : List ℕ) → is_less a b ≡ true → is_less b a ≡ false
less_back a b h = ap is_lt (reversed a b Less (less_from (slice_cmp nat_cmp a b) h))

above_trans : (last : Option (List ℕ)) (a b : List ℕ) → is_above last a ≡ true → is_less a b ≡ true → is_above last b ≡ true
above_trans None a b h k = refl
above_trans (Some last) a b h k = less_trans last a b h k

-- ---- the first of the ordered entries above a name

abbrev head_of : List Entry → Option Entry
head_of [] = None
head_of (e ∷ es) = Some e

-- what the comparison of the names of an entry and of a new one says
abbrev Says : Ordering → Option (List ℕ) → Entry → Entry → Type 0
Says Less last e new = is_less new.0 e.0 ≡ false
Says Equal last e new = (is_less new.0 e.0 ≡ false) × (is_above last new.0 ≡ is_above last e.0)
Says Greater last e new = (is_less new.0 e.0 ≡ true) × (is_above last new.0 ≡ true → is_above last e.0 ≡ true)

says : (o : Ordering) (last : Option (List ℕ)) (e new : Entry) → slice_cmp nat_cmp e.0 new.0 ≡ o → Says o last e new
says Less last e new h = ap is_lt (reversed e.0 new.0 Less h)
says Equal last e new h = (ap is_lt (reversed e.0 new.0 Equal h), ap (is_above last) (sym (same_bytes e.0 new.0 h)))
says Greater last e new h = let less : is_less new.0 e.0 ≡ true = ap is_lt (reversed e.0 new.0 Greater h) in (less, λ up. above_trans last new.0 e.0 up less)

placed_step : (o : Ordering) (last : Option (List ℕ)) (e new : Entry) (es more : List Entry) → Says o last e new
    → head_of (above last more) ≡ closer last (head_of (above last es)) new
    → head_of (above last (by_order o (e ∷ more) (e ∷ es) (new ∷ e ∷ es))) ≡ closer last (head_of (above last (e ∷ es))) new
placed_step Less last e new es more says ih = grind (arith, common_steps)
placed_step Equal last e new es more says ih = grind (arith, common_steps)
placed_step Greater last e new es more says ih = grind (arith, common_steps)

placed_head : (last : Option (List ℕ)) (new : Entry) (es : List Entry) → head_of (above last (placed new es)) ≡ closer last (head_of (above last es)) new
placed_head last new [] = grind (arith, common_steps)
placed_head last new (e ∷ es) =
    placed_step (slice_cmp nat_cmp e.0 new.0) last e new es (placed new es) (says (slice_cmp nat_cmp e.0 new.0) last e new refl) (placed_head last new es)

all_placed_head : (last : Option (List ℕ)) (es news : List Entry) → head_of (above last (placed_all es news)) ≡ closest last (head_of (above last es)) news
all_placed_head last es [] = refl
all_placed_head last es (new ∷ news) = all_placed_head last (placed new es) news ∙ ap (λ found. closest last found news) (placed_head last new es)

-- ---- ordered entries ascend

abbrev Begins : Entry → List Entry → Type 0
Begins e [] = Unit {0}
Begins e (f ∷ es) = is_less e.0 f.0 ≡ true

abbrev Ascends : List Entry → Type 0
Ascends [] = Unit {0}
Ascends (e ∷ es) = Begins e es × Ascends es

placed_begins : (first new : Entry) (es : List Entry) → Begins first es → is_less first.0 new.0 ≡ true → Begins first (placed new es)
placed_begins first new [] b h = h
placed_begins first new (e ∷ es) b h = by_cases (slice_cmp nat_cmp e.0 new.0) (placed new es)
  where
    by_cases : (o : Ordering) (more : List Entry) → Begins first (by_order o (e ∷ more) (e ∷ es) (new ∷ e ∷ es))
    by_cases Less more = b
    by_cases Equal more = b
    by_cases Greater more = h

placed_ascends : (new : Entry) (es : List Entry) → Ascends es → Ascends (placed new es)
placed_ascends new [] up = (tt, tt)
placed_ascends new (e ∷ es) up = by_cases (slice_cmp nat_cmp e.0 new.0) refl (placed_ascends new es up.1)
  where
    by_cases : (o : Ordering) → slice_cmp nat_cmp e.0 new.0 ≡ o → Ascends (placed new es) → Ascends (by_order o (e ∷ placed new es) (e ∷ es) (new ∷ e ∷ es))
    by_cases Less h more = (placed_begins e new es up.0 (ap is_lt h), more)
    by_cases Equal h more = up
    by_cases Greater h more = (ap is_lt (reversed e.0 new.0 Greater h), up)

all_placed_ascends : (es news : List Entry) → Ascends es → Ascends (placed_all es news)
all_placed_ascends es [] up = up
all_placed_ascends es (new ∷ news) up = all_placed_ascends (placed new es) news (placed_ascends new es up)

-- ---- what is left above the next one

above_itself : (e : Entry) (es : List Entry) → Begins e es → above (Some e.0) es ≡ es
above_itself e [] b = refl
above_itself e (f ∷ es) b = rw b refl

head_is_above : (last : Option (List ℕ)) (e : Entry) (es rest : List Entry) → above last es ≡ e ∷ rest → is_above last e.0 ≡ true
head_is_above last e [] rest h = cc
head_is_above last e (f ∷ es) rest h = by_cases (is_above last f.0) refl (head_is_above last e es rest)
  where
    by_cases : (b : Bool) → is_above last f.0 ≡ b → (above last es ≡ e ∷ rest → is_above last e.0 ≡ true) → is_above last e.0 ≡ true
    by_cases true up later =
        let same : f ∷ es ≡ e ∷ rest = rw up at h in
        let first : f ≡ e = cc in
        ap (λ (x : Entry). is_above last x.0) (sym first) ∙ up
    by_cases false down later = later (rw down at h)

not_below : (last : Option (List ℕ)) (e f : List ℕ) → is_above last f ≡ false → is_above last e ≡ true → is_less e f ≡ false
not_below last e f down up = by_cases (is_less e f) refl
  where
    by_cases : (b : Bool) → is_less e f ≡ b → b ≡ false
    by_cases true h = let yes : is_above last f ≡ true = above_trans last e f up h in cc
    by_cases false h = refl

above_next : (last : Option (List ℕ)) (e : Entry) (es rest : List Entry) → Ascends es → above last es ≡ e ∷ rest → above (Some e.0) es ≡ rest
above_next last e [] rest up h = cc
above_next last e (f ∷ es) rest up h = by_cases (is_above last f.0) refl (above_next last e es rest up.1)
  where
    by_cases : (b : Bool) → is_above last f.0 ≡ b → (above last es ≡ e ∷ rest → above (Some e.0) es ≡ rest) → above (Some e.0) (f ∷ es) ≡ rest
    by_cases true there later =
        let same : f ∷ es ≡ e ∷ rest = rw there at h in
        let first : e ≡ f = cc in
        let more : es ≡ rest = cc in
        subst (λ (x : Entry). above (Some x.0) (f ∷ es) ≡ rest) (sym first) (rw (not_itself f.0) (above_itself f es up.0 ∙ more))
    by_cases false down later =
        let left : above last es ≡ e ∷ rest = rw down at h in
        rw (not_below last e.0 f.0 down (head_is_above last e es rest left)) (later left)

-- ---- the next entry of an object

head_some : (e : Entry) (es : List Entry) → head_of es ≡ Some e → (rest : List Entry) × (es ≡ e ∷ rest)
head_some e [] h = absurd (cc)
head_some e (f ∷ es) h = (es, cc)

head_none : (es : List Entry) → head_of es ≡ None → es ≡ []
head_none [] h = refl
head_none (f ∷ es) h = absurd (cc)

pub next_some : (last : Option (List ℕ)) (e : Entry) (es : List Entry) → closest last None es ≡ Some e
    → above last (in_order es) ≡ e ∷ above (Some e.0) (in_order es)
next_some last e es h =
    let found = head_some e (above last (in_order es)) (all_placed_head last [] es ∙ h) in
    found.1 ∙ ap (λ (rest : List Entry). e ∷ rest) (sym (above_next last e (in_order es) found.0 (all_placed_ascends [] es tt) found.1))

pub next_none : (last : Option (List ℕ)) (es : List Entry) → closest last None es ≡ None → above last (in_order es) ≡ []
next_none last es h = head_none (above last (in_order es)) (all_placed_head last [] es ∙ h)

pub above_none : (es : List Entry) → above None es ≡ es
above_none [] = refl
above_none (e ∷ es) = refl

pub next_from : (last : Option (List ℕ)) (es : List Entry) (next : Option Entry) → next ≡ closest last None es → IsNext last es next
next_from last es None h = next_none last es (sym h)
next_from last es (Some e) h = next_some last e es (sym h)

-- ---- names that rise as they stand

pub both : (a b : Bool) → (a && b) ≡ true → (a ≡ true) × (b ≡ true)
both true b h = (refl, h)
both false b h = absurd (let no : ⊥ = cc in no)

rise_begins : (e : Entry) (es : List Entry) → rise (Some e.0) es ≡ true → Begins e es
rise_begins e [] h = tt
rise_begins e (f ∷ es) h = (both (is_less e.0 f.0) (rise (Some f.0) es) h).0

rise_ascends : (last : Option (List ℕ)) (es : List Entry) → rise last es ≡ true → Ascends es
rise_ascends last [] h = tt
rise_ascends last (e ∷ es) h =
    let rest : rise (Some e.0) es ≡ true = (both (is_above last e.0) (rise (Some e.0) es) h).1 in
    (rise_begins e es rest, rise_ascends (Some e.0) es rest)

not_less : (e f x : Entry) → is_less e.0 f.0 ≡ true → is_less e.0 x.0 ≡ false → is_less f.0 x.0 ≡ false
not_less e f x up none = by_cases (is_less f.0 x.0) refl
  where
    by_cases : (b : Bool) → is_less f.0 x.0 ≡ b → b ≡ false
    by_cases true h = let yes : is_less e.0 x.0 ≡ true = less_trans e.0 f.0 x.0 up h in cc
    by_cases false h = refl

closer_same : (last : Option (List ℕ)) (x f : Entry) → is_less f.0 x.0 ≡ false → closer last (Some x) f ≡ Some x
closer_same last x f none = by_cases (is_above last f.0)
  where
    by_cases : (b : Bool) → (if b then nearer f (Some x) else Some x) ≡ Some x
    by_cases true = rw none refl
    by_cases false = refl

-- what is found stays, where nothing behind it is less
stays : (last : Option (List ℕ)) (e x : Entry) (es : List Entry) → Begins e es → Ascends es → is_less e.0 x.0 ≡ false → closest last (Some x) es ≡ Some x
stays last e x [] begins up none = refl
stays last e x (f ∷ es) begins up none =
    let less : is_less f.0 x.0 ≡ false = not_less e f x begins none in
    ap (λ (found : Option Entry). closest last found es) (closer_same last x f less) ∙ stays last f x es up.0 up.1 less

rest_after : (last : Option (List ℕ)) (found : Option Entry) (e : Entry) (es : List Entry) → Ascends (e ∷ es) → is_above last e.0 ≡ true → closest last (closer last found e) es ≡ closer last found e
rest_after last found e es up here = rw here (by_found found)
  where
    by_less : (g : Entry) (b : Bool) → is_less e.0 g.0 ≡ b → closest last (if b then Some e else Some g) es ≡ (if b then Some e else Some g)
    by_less g true h = stays last e e es up.0 up.1 (not_itself e.0)
    by_less g false h = stays last e g es up.0 up.1 h

    by_found : (found : Option Entry) → closest last (nearer e found) es ≡ nearer e found
    by_found None = stays last e e es up.0 up.1 (not_itself e.0)
    by_found (Some g) = by_less g (is_less e.0 g.0) refl

module _ {X : Type 0} (f : X → Entry) where
  ascends_drop : (k : ℕ) (xs : List X) → Ascends (map f xs) → Ascends (map f (drop k xs))
  ascends_drop zero xs up = up
  ascends_drop (suc k) [] up = tt
  ascends_drop (suc k) (x ∷ xs) up = ascends_drop k xs up.1

  -- the first that is left of things whose names rise is the next one
  pub first_next : (xs : List X) (k : ℕ) (x d : X) (last : Option (List ℕ)) (found next : Option Entry) → rise None (map f xs) ≡ true → k < length xs → x ≡ get_or xs k d → is_above last (f x).0 ≡ true
      → closest last found (map f (drop k xs)) ≡ next → closer last found (f x) ≡ next
  first_next xs k x d last found next up below is here was =
      let parts : map f (drop k xs) ≡ f x ∷ map f (drop (suc k) xs) = ap (map f) (drop-cons xs k d below) ∙ ap (λ (y : X). f y ∷ map f (drop (suc k) xs)) (sym is) in
      let ascends : Ascends (f x ∷ map f (drop (suc k) xs)) = subst Ascends parts (ascends_drop k xs (rise_ascends None (map f xs) up)) in
      sym (rest_after last found (f x) (map f (drop (suc k) xs)) ascends here) ∙ ap (closest last found) (sym parts) ∙ was

  -- where none is left, what is found is the next one
  pub none_left : (xs : List X) (k : ℕ) (last : Option (List ℕ)) (found next : Option Entry) → length xs ≤ k → closest last found (map f (drop k xs)) ≡ next → found ≡ next
  none_left [] zero last found next past was = was
  none_left [] (suc k) last found next past was = was
  none_left (x ∷ xs) zero last found next past was = absurd (omega (arith, past))
  none_left (x ∷ xs) (suc k) last found next past was = none_left xs k last found next (omega (arith, past)) was

-- ---- what is passed

-- what is passed needn't be looked at
pub skip : (last : Option (List ℕ)) (found : Option Entry) (es : List Entry) (at : ℕ) → ArePassed last es at → closest last found (drop at es) ≡ closest last found es
skip last found es zero passed = refl
skip last found [] (suc at) passed = refl
skip last found (e ∷ es) (suc at) passed =
    let first : is_above last e.0 ≡ false = passed zero e (omega arith) (omega arith) in
    rw first (skip last found es at (λ k d below inside. passed (suc k) d (omega (arith, below)) (omega (arith, inside))))

pub drop_map : {X : Type 0} (f : X → Entry) (xs : List X) (k : ℕ) → map f (drop k xs) ≡ drop k (map f xs)
drop_map f xs zero = refl
drop_map f [] (suc k) = refl
drop_map f (x ∷ xs) (suc k) = drop_map f xs k

-- it is passed behind the next name too
pub passed_on : (last : Option (List ℕ)) (all es : List Entry) (at : ℕ) (e : Entry) → IsNext last all (Some e) → ArePassed last es at → ArePassed (Some e.0) es at
passed_on last all es at e next passed =
    λ k d below inside. not_below last e.0 (get_or es k d).0 (passed k d below inside) (head_is_above last e (in_order all) (above (Some e.0) (in_order all)) next)

pub passed_none : (last : Option (List ℕ)) (es : List Entry) → ArePassed last es 0
passed_none last es = λ k d below inside. absurd (omega (arith, below))

-- one more is passed
pub passed_more : {X : Type 0} (f : X → Entry) (last : Option (List ℕ)) (xs : List X) (at : ℕ) (x d : X) → ArePassed last (map f xs) at → at < length xs → x ≡ get_or xs at d → is_above last (f x).0 ≡ false → ArePassed last (map f xs) (at + 1)
passed_more {X = X} f last xs at x d was below is none k e up inside = elim (cases_lt k at) [
  | inl less ↦ was k e less inside
  | inr past ↦
      let here : k ≡ at = omega (arith, up, past) in
      ap (λ (n : ℕ). is_above last (get_or (map f xs) n e).0) here ∙ ap (λ (y : Entry). is_above last y.0) (get_or-map f xs at d e below) ∙ ap (λ (y : X). is_above last (f y).0) (sym is) ∙ none
]
