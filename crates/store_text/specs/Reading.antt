-- Reading a record from left to right, and the laws that this undoes its text.
use Rattle.std.proofs.Common.{◌≡◌, ℕ, zero, suc, ◌+◌, ◌<◌, ◌^◌, Bool, true, false, ltb, List, [], ◌∷◌, ◌++◌, length, get_or, map, Option, Some, None, refl, sym, ap, subst, ◌∙◌, arith}
use Rattle.std.specs.List.{All, flat_map}
use Rattle.std.specs.List.Sorted.{IsStrictlyIncreasing}
use Rattle.std.proofs.lemmas.Bool.{ltb-true, lt-ltb}
use Rattle.std.proofs.lemmas.List.{map-id, append-nil, get_or_default}
use Rattle.std.proofs.lemmas.List.Elements.{All-nil, All-cons, All-head, All-tail}
use Rattle.part_text.specs.Text.{u32_text, u64_text, string_text, counted_text}
use Rattle.part_text.specs.Reading.{Reader, u32_at, u64_at, string_at, both_at, tested_at, made_at, follows, counted_at}
use Rattle.part_text.specs.Reads.{Reads, Follow, both_text, bind_some, u32_reads, u64_reads, string_reads, both_reads, tested_reads, reads_as, counted_reads}
use Rattle.part_text.specs.Order.{After, Rising, follow_all, follow_rising, follow_of}
use Rattle.store_text.specs.declared.record.TheConstants.{MOST_BODIES}
use Rattle.store_text.specs.declared.record.Row.{Row}
use Rattle.store_text.specs.declared.record.RecordText.{RecordText}
use Rattle.store_text.specs.Record.{old_mark, mark, bool_text, row_text, rows_text, bodies_text, IsRow, AreBodyTexts, IsRecord}

-- ---- readers

-- a dead root's index behind the one before it
unfoldable pub index_at : Option ℕ → Reader ℕ
index_at = tested_at (follows ltb) u32_at

unfoldable pub dead_at : Reader (List ℕ)
dead_at = counted_at u32_at (λ index. index) index_at

abbrev pub RowParts : Type 0
RowParts = ℕ × (ℕ × List ℕ)

abbrev pub row_from : RowParts → Row
row_from parts = record { at = parts.0; len = parts.1.0; dead = parts.1.1 }

abbrev pub row_parts : Row → RowParts
row_parts row = (row.at, (row.len, row.dead))

unfoldable pub row_at : Reader Row
row_at = made_at row_from (both_at (λ (_ : Unit {0}). u64_at) (both_at (λ (_ : Unit {0}). u64_at) dead_at tt)) tt

unfoldable pub rows_at : Reader (List Row)
rows_at = counted_at u32_at (λ _. tt {0}) (λ _. row_at)

-- a number of bodies
abbrev pub is_few : Unit {0} → ℕ → Bool
is_few before count = ltb count (MOST_BODIES + 1)

unfoldable pub count_at : Reader ℕ
count_at = tested_at is_few u32_at tt

abbrev pub has_some : Unit {0} → List (List ℕ) → Bool
has_some before bodies = ltb 0 (length bodies)

unfoldable pub listed_at : Reader (List (List ℕ))
listed_at = counted_at count_at (λ _. tt {0}) (λ _. string_at)

unfoldable pub bodies_at : Reader (List (List ℕ))
bodies_at = tested_at has_some listed_at tt

-- a byte that says yes or no
abbrev pub bool_of : ℕ → List ℕ → Option (Bool × List ℕ)
bool_of zero bytes = Some (false, bytes)
bool_of (suc zero) bytes = Some (true, bytes)
bool_of (suc (suc n)) bytes = None

unfoldable pub bool_at : Reader Bool
bool_at [] = None
bool_at (byte ∷ bytes) = bool_of byte bytes

-- what stands behind the mark of either form
abbrev pub OldParts : Type 0
OldParts = ℕ × (List ℕ × List Row)

abbrev pub NewParts : Type 0
NewParts = ℕ × (Bool × (List (List ℕ) × List Row))

abbrev pub old_from : OldParts → RecordText
old_from parts = record { old = true; next = parts.0; dynamic = false; bodies = parts.1.0 ∷ []; rows = parts.1.1 }

abbrev pub new_from : NewParts → RecordText
new_from parts = record { old = false; next = parts.0; dynamic = parts.1.0; bodies = parts.1.1.0; rows = parts.1.1.1 }

abbrev pub new_parts : RecordText → NewParts
new_parts r = (r.next, (r.dynamic, (r.bodies, r.rows)))

unfoldable pub old_at : Reader RecordText
old_at = made_at old_from (both_at (λ (_ : Unit {0}). u64_at) (both_at (λ (_ : Unit {0}). string_at) rows_at tt)) tt

unfoldable pub new_at : Reader RecordText
new_at = made_at new_from (both_at (λ (_ : Unit {0}). u64_at) (both_at (λ (_ : Unit {0}). bool_at) (both_at (λ (_ : Unit {0}). bodies_at) rows_at tt) tt)) tt

unfoldable pub after_at : Bool → Reader RecordText
after_at true = old_at
after_at false = new_at

-- ---- texts in parts

abbrev pub form_mark : Bool → List ℕ
form_mark true = old_mark
form_mark false = mark

unfoldable pub old_after : RecordText → List ℕ
old_after r = u64_text r.next ++ (flat_map string_text r.bodies ++ rows_text r.rows)

unfoldable pub new_after : RecordText → List ℕ
new_after r = u64_text r.next ++ (bool_text r.dynamic ++ (bodies_text r.bodies ++ rows_text r.rows))

-- what stands behind the mark
abbrev pub after_text : Bool → RecordText → List ℕ
after_text true r = old_after r
after_text false r = new_after r

-- ---- laws: ways to make

some_is : {A : Type 0} (x y : A) → ◌≡◌ {A = Option A} (Some x) (Some y) → x ≡ y
some_is x y e = cc

-- what is made of values that were read; each such value is made of one
made_some : {B X Y : Type 0} (make : X → Y) (text : X → List ℕ) (own : Y → List ℕ) (May : B → X → Type 0) (Other : B → Y → Type 0) (item : B → Reader X) → Reads text May item → ((before : B) (x : X) → May before x → Other before (make x)) → ((x : X) → own (make x) ≡ text x) → ((before : B) (y : Y) → Other before y → (x : X) × May before x × (make x ≡ y)) → Reads own Other (made_at make item)
made_some {B} {X} {Y} make text own May Other item law to same back = record {
  takes = λ before bytes y rest fits e.
      let a = bind_some (item before bytes) (λ (p : X × List ℕ). Some (make p.0, p.1)) (y, rest) e in
      let t = law.takes before bytes a.0.0 a.0.1 fits a.1 in
      let parts : bytes ≡ own (make a.0.0) ++ a.0.1 = t.1 ∙ ap (λ front. front ++ a.0.1) (sym (same a.0.0)) in
      let made : Y × List ℕ = (make a.0.0, a.0.1) in
      subst (λ (p : Y × List ℕ). Other before p.0 × (bytes ≡ own p.0 ++ p.1)) (some_is made (y, rest) a.2) (to before a.0.0 t.0, parts);
  again = λ before y rest may.
      let b = back before y may in
      let read : made_at make item before (own (make b.0) ++ rest) ≡ Some (make b.0, rest) = rw (same b.0, law.again before b.0 rest b.1) refl in
      subst (λ (z : Y). made_at make item before (own z ++ rest) ≡ Some (z, rest)) b.2 read;
}

-- the same reader, whatever stands before
always : {B X : Type 0} (text : X → List ℕ) (May : X → Type 0) (item : Unit {0} → Reader X) → Reads {B = Unit {0}} text (λ _ x. May x) item → Reads {B = B} text (λ _ x. May x) (λ _. item tt)
always text May item law = record {
  takes = λ before bytes x rest fits e. law.takes tt bytes x rest fits e;
  again = λ before x rest may. law.again tt x rest may;
}

each_from : {X : Type 0} (P : X → Type 0) (before : Option (Unit {0})) (xs : List X) → Follow (λ _. tt {0}) (λ _ x. P x) before xs → All P xs
each_from P before [] follow = All-nil P
each_from P before (x ∷ xs) follow = All-cons P x xs follow.0 (each_from P (Some tt) xs follow.1)

each_to : {X : Type 0} (P : X → Type 0) (before : Option (Unit {0})) (xs : List X) → All P xs → Follow (λ _. tt {0}) (λ _ x. P x) before xs
each_to P before [] each = tt
each_to P before (x ∷ xs) each = (All-head P x xs each, each_to P (Some tt) xs (All-tail P x xs each))

-- ---- laws: a row

behind_after : (before : Option ℕ) (x : ℕ) → follows ltb before x ≡ true → After (λ (a b : ℕ). a < b) before x
behind_after None x e = tt
behind_after (Some before) x e = ltb-true before x e

after_behind : (before : Option ℕ) (x : ℕ) → After (λ (a b : ℕ). a < b) before x → follows ltb before x ≡ true
after_behind None x e = refl
after_behind (Some before) x e = lt-ltb before x e

abbrev MayIndex : Option ℕ → ℕ → Type 0
MayIndex before index = (index < 2 ^ 32) × After (λ (a b : ℕ). a < b) before index

pub index_reads : Reads u32_text MayIndex index_at
unfolding index_at
index_reads = tested_reads u32_text (λ _ index. index < 2 ^ 32) (After (λ (a b : ℕ). a < b)) (follows ltb) u32_at u32_reads behind_after after_behind

pub record AreDead (dead : List ℕ) : Type 0 where
  pub few : length dead < 2 ^ 32
  pub indexes : All (λ (index : ℕ). index < 2 ^ 32) dead
  pub ascending : IsStrictlyIncreasing dead

dead_from : (dead : List ℕ) → Follow (λ index. index) MayIndex None dead → IsStrictlyIncreasing dead
dead_from dead follow =
    let rising : Rising (λ (a b : ℕ). a < b) dead = subst (λ (xs : List ℕ). Rising (λ (a b : ℕ). a < b) xs) (map-id dead) (follow_rising (λ index. index) (λ (a b : ℕ). a < b) (λ (index : ℕ). index < 2 ^ 32) None dead follow) in
    λ k below. rising k 0 below

dead_rising : (dead : List ℕ) → IsStrictlyIncreasing dead → Rising (λ (a b : ℕ). a < b) (map (λ index. index) dead)
dead_rising dead ascending = subst (λ (xs : List ℕ). Rising (λ (a b : ℕ). a < b) xs) (sym (map-id dead)) (λ k d below.
    let here : get_or dead k d ≡ get_or dead k 0 = get_or_default dead k d 0 (omega arith) in
    let next : get_or dead (k + 1) d ≡ get_or dead (k + 1) 0 = get_or_default dead (k + 1) d 0 below in
    let rises : get_or dead k 0 < get_or dead (k + 1) 0 = ascending k below in
    omega (arith, rises, here, next))

pub dead_reads : {B : Type 0} → Reads {B = B} (counted_text u32_text u32_text) (λ _ dead. AreDead dead) (λ _. dead_at)
unfolding dead_at
dead_reads {B} =
    reads_as {B = B} (counted_text u32_text u32_text) (λ _ (dead : List ℕ). (length dead < 2 ^ 32) × Follow (λ index. index) MayIndex None dead) (λ _ dead. AreDead dead) (λ _. counted_at u32_at (λ index. index) index_at)
    (counted_reads (2 ^ 32) u32_text u32_at (λ index. index) u32_text MayIndex index_at u32_reads index_reads)
    (λ _ dead may. record { few = may.0; indexes = follow_all (λ index. index) (λ (a b : ℕ). a < b) (λ (index : ℕ). index < 2 ^ 32) None dead may.1; ascending = dead_from dead may.1 })
    (λ _ dead are. (are.few, follow_of (λ index. index) (λ (a b : ℕ). a < b) (λ (index : ℕ). index < 2 ^ 32) dead are.indexes (dead_rising dead are.ascending)))

pub row_reads : {B : Type 0} → Reads {B = B} row_text (λ _ row. IsRow row) (λ _. row_at)
unfolding row_at
row_reads {B} =
    let DeadText : List ℕ → List ℕ = counted_text u32_text u32_text in
    let Text2 : ℕ × List ℕ → List ℕ = both_text u64_text DeadText in
    let May2 : ℕ × List ℕ → Type 0 = λ p. (p.0 < 2 ^ 64) × AreDead p.1 in
    let at2 : Reader (ℕ × List ℕ) = both_at (λ (_ : Unit {0}). u64_at) dead_at tt in
    let law2 : Reads {B = B} Text2 (λ _ p. May2 p) (λ _. at2) = both_reads {B = B} u64_text DeadText (λ _ n. n < 2 ^ 64) (λ _ dead. AreDead dead) (λ _. u64_at) dead_at u64_reads dead_reads in
    let Text1 : RowParts → List ℕ = both_text u64_text Text2 in
    let May1 : RowParts → Type 0 = λ p. (p.0 < 2 ^ 64) × May2 p.1 in
    let at1 : Reader RowParts = both_at (λ (_ : Unit {0}). u64_at) at2 tt in
    let law1 : Reads {B = B} Text1 (λ _ p. May1 p) (λ _. at1) = both_reads {B = B} u64_text Text2 (λ _ n. n < 2 ^ 64) (λ _ p. May2 p) (λ _. u64_at) at2 u64_reads law2 in
    made_some {B = B} row_from Text1 row_text (λ _ p. May1 p) (λ _ row. IsRow row) (λ _. at1) law1
    (λ _ p may. record { at = may.0; len = may.1.0; few = may.1.1.few; indexes = may.1.1.indexes; ascending = may.1.1.ascending })
    (λ p. refl)
    (λ _ row is. (row_parts row, (is.at, (is.len, record { few = is.few; indexes = is.indexes; ascending = is.ascending })), refl))

pub record AreRows (rows : List Row) : Type 0 where
  pub few : length rows < 2 ^ 32
  pub each : All IsRow rows

pub rows_reads : {B : Type 0} → Reads {B = B} rows_text (λ _ rows. AreRows rows) (λ _. rows_at)
unfolding rows_at
rows_reads {B} =
    reads_as {B = B} rows_text (λ _ (rows : List Row). (length rows < 2 ^ 32) × Follow (λ _. tt {0}) (λ _ row. IsRow row) None rows) (λ _ rows. AreRows rows) (λ _. counted_at u32_at (λ _. tt {0}) (λ _. row_at))
    (counted_reads (2 ^ 32) u32_text u32_at (λ _. tt {0}) row_text (λ _ row. IsRow row) (λ _. row_at) u32_reads row_reads)
    (λ _ rows may. record { few = may.0; each = each_from IsRow None rows may.1 })
    (λ _ rows are. (are.few, each_to IsRow None rows are.each))

-- ---- laws: bodies

abbrev IsShort : List ℕ → Type 0
IsShort body = length body < 2 ^ 32

pub count_reads : {B : Type 0} → Reads {B = B} u32_text (λ _ n. n < MOST_BODIES + 1) (λ _. count_at)
unfolding count_at
count_reads {B} =
    reads_as {B = B} u32_text (λ _ n. (n < 2 ^ 32) × (n < MOST_BODIES + 1)) (λ _ n. n < MOST_BODIES + 1) (λ _. tested_at is_few u32_at tt)
    (always {B = B} u32_text (λ n. (n < 2 ^ 32) × (n < MOST_BODIES + 1)) (tested_at is_few u32_at)
    (tested_reads {B = Unit {0}} u32_text (λ _ n. n < 2 ^ 32) (λ _ n. n < MOST_BODIES + 1) is_few u32_at u32_reads (λ _ n e. ltb-true n (MOST_BODIES + 1) e) (λ _ n e. lt-ltb n (MOST_BODIES + 1) e)))
    (λ _ n may. may.1)
    (λ _ n few. (omega arith, few))

pub bodies_reads : {B : Type 0} → Reads {B = B} bodies_text (λ _ bodies. AreBodyTexts bodies) (λ _. bodies_at)
unfolding bodies_at listed_at
bodies_reads {B} =
    let MayListed : List (List ℕ) → Type 0 = λ bodies. (length bodies < MOST_BODIES + 1) × Follow (λ _. tt {0}) (λ _ body. IsShort body) None bodies in
    let listed : Reads {B = Unit {0}} bodies_text (λ _ bodies. MayListed bodies) (λ _. listed_at) = counted_reads (MOST_BODIES + 1) u32_text count_at (λ _. tt {0}) string_text (λ _ body. IsShort body) (λ _. string_at) count_reads string_reads in
    let May : List (List ℕ) → Type 0 = λ bodies. MayListed bodies × (0 < length bodies) in
    reads_as {B = B} bodies_text (λ _ bodies. May bodies) (λ _ bodies. AreBodyTexts bodies) (λ _. tested_at has_some listed_at tt)
    (always {B = B} bodies_text May (tested_at has_some listed_at)
    (tested_reads {B = Unit {0}} bodies_text (λ _ bodies. MayListed bodies) (λ _ bodies. 0 < length bodies) has_some listed_at listed (λ _ bodies e. ltb-true 0 (length bodies) e) (λ _ bodies e. lt-ltb 0 (length bodies) e)))
    (λ _ bodies may. record { some = omega (arith, may.1); few = omega (arith, may.0.0); short = each_from IsShort None bodies may.0.1 })
    (λ _ bodies are. ((omega (arith, are.few), each_to IsShort None bodies are.short), omega (arith, are.some)))

-- ---- laws: a byte for yes or no

bool_takes : (bytes : List ℕ) (b : Bool) (rest : List ℕ) → bool_at bytes ≡ Some (b, rest) → bytes ≡ bool_text b ++ rest
unfolding bool_at
bool_takes [] b rest e = absurd (cc)
bool_takes (zero ∷ bytes) b rest e =
    subst (λ (p : Bool × List ℕ). (zero ∷ bytes) ≡ bool_text p.0 ++ p.1) (some_is (false, bytes) (b, rest) e) refl
bool_takes (suc zero ∷ bytes) b rest e =
    subst (λ (p : Bool × List ℕ). (suc zero ∷ bytes) ≡ bool_text p.0 ++ p.1) (some_is (true, bytes) (b, rest) e) refl
bool_takes (suc (suc n) ∷ bytes) b rest e = absurd (cc)

bool_again : (b : Bool) (rest : List ℕ) → bool_at (bool_text b ++ rest) ≡ Some (b, rest)
unfolding bool_at
bool_again false rest = refl
bool_again true rest = refl

pub bool_reads : {B : Type 0} → Reads {B = B} bool_text (λ _ b. Unit {0}) (λ _. bool_at)
bool_reads = record { takes = λ before bytes b rest fits e. (tt, bool_takes bytes b rest e); again = λ before b rest may. bool_again b rest }

-- ---- laws: the forms

abbrev pub IsOf : Bool → RecordText → Type 0
IsOf old r = IsRecord r × (r.old ≡ old)

-- a list of one
one_in : (bodies : List (List ℕ)) → length bodies ≡ 1 → (body : List ℕ) × (bodies ≡ body ∷ [])
one_in [] e = absurd (omega (arith, e))
one_in (body ∷ []) e = (body, refl)
one_in (body ∷ other ∷ bodies) e = absurd (omega (arith, e))

abbrev MayOld : OldParts → Type 0
MayOld p = (p.0 < 2 ^ 64) × (IsShort p.1.0 × AreRows p.1.1)

old_to : (p : OldParts) → MayOld p → IsOf true (old_from p)
old_to p may = (
  record {
    next = may.0;
    bodies = record { some = omega arith; few = omega arith; short = All-cons IsShort p.1.0 [] may.1.0 (All-nil IsShort) };
    few = may.1.1.few;
    rows = may.1.1.each;
    old = λ _. record { one = refl; fixed = refl };
  },
  refl,
)

old_back : (r : RecordText) → IsOf true r → (p : OldParts) × MayOld p × (old_from p ≡ r)
old_back r is =
    let form = is.0.old is.1 in
    let body = one_in r.bodies form.one in
    let short : All IsShort (body.0 ∷ []) = subst (All IsShort) body.1 is.0.bodies.short in
    let p : OldParts = (r.next, (body.0, r.rows)) in
    let same : r ≡ old_from p =
    ap (λ (old : Bool). record { old = old; next = r.next; dynamic = r.dynamic; bodies = r.bodies; rows = r.rows }) is.1
    ∙ ap (λ (dynamic : Bool). record { old = true; next = r.next; dynamic = dynamic; bodies = r.bodies; rows = r.rows }) form.fixed
    ∙ ap (λ (bodies : List (List ℕ)). record { old = true; next = r.next; dynamic = false; bodies = bodies; rows = r.rows }) body.1 in
    (p, (is.0.next, (All-head IsShort body.0 [] short, record { few = is.0.few; each = is.0.rows })), sym same)

pub old_reads : {B : Type 0} → Reads {B = B} old_after (λ _ r. IsOf true r) (λ _. old_at)
unfolding old_at old_after
old_reads {B} =
    let Text2 : List ℕ × List Row → List ℕ = both_text string_text rows_text in
    let May2 : List ℕ × List Row → Type 0 = λ p. IsShort p.0 × AreRows p.1 in
    let at2 : Reader (List ℕ × List Row) = both_at (λ (_ : Unit {0}). string_at) rows_at tt in
    let law2 : Reads {B = B} Text2 (λ _ p. May2 p) (λ _. at2) = both_reads {B = B} string_text rows_text (λ _ body. IsShort body) (λ _ rows. AreRows rows) (λ _. string_at) rows_at string_reads rows_reads in
    let Text1 : OldParts → List ℕ = both_text u64_text Text2 in
    let at1 : Reader OldParts = both_at (λ (_ : Unit {0}). u64_at) at2 tt in
    let law1 : Reads {B = B} Text1 (λ _ p. MayOld p) (λ _. at1) = both_reads {B = B} u64_text Text2 (λ _ n. n < 2 ^ 64) (λ _ p. May2 p) (λ _. u64_at) at2 u64_reads law2 in
    made_some {B = B} old_from Text1 old_after (λ _ p. MayOld p) (λ _ r. IsOf true r) (λ _. at1) law1
    (λ _ p may. old_to p may)
    (λ p. ap (λ front. u64_text p.0 ++ (front ++ rows_text p.1.1)) (append-nil (string_text p.1.0)))
    (λ _ r is. old_back r is)

abbrev MayNew : NewParts → Type 0
MayNew p = (p.0 < 2 ^ 64) × (Unit {0} × (AreBodyTexts p.1.1.0 × AreRows p.1.1.1))

new_to : (p : NewParts) → MayNew p → IsOf false (new_from p)
new_to p may = (
  record {
    next = may.0;
    bodies = may.1.1.0;
    few = may.1.1.1.few;
    rows = may.1.1.1.each;
    old = λ e. absurd (cc);
  },
  refl,
)

new_back : (r : RecordText) → IsOf false r → (p : NewParts) × MayNew p × (new_from p ≡ r)
new_back r is =
    let same : r ≡ new_from (new_parts r) =
    ap (λ (old : Bool). record { old = old; next = r.next; dynamic = r.dynamic; bodies = r.bodies; rows = r.rows }) is.1 in
    (new_parts r, (is.0.next, (tt, (is.0.bodies, record { few = is.0.few; each = is.0.rows }))), sym same)

pub new_reads : {B : Type 0} → Reads {B = B} new_after (λ _ r. IsOf false r) (λ _. new_at)
unfolding new_at new_after
new_reads {B} =
    let Text3 : List (List ℕ) × List Row → List ℕ = both_text bodies_text rows_text in
    let May3 : List (List ℕ) × List Row → Type 0 = λ p. AreBodyTexts p.0 × AreRows p.1 in
    let at3 : Reader (List (List ℕ) × List Row) = both_at (λ (_ : Unit {0}). bodies_at) rows_at tt in
    let law3 : Reads {B = B} Text3 (λ _ p. May3 p) (λ _. at3) = both_reads {B = B} bodies_text rows_text (λ _ bodies. AreBodyTexts bodies) (λ _ rows. AreRows rows) (λ _. bodies_at) rows_at bodies_reads rows_reads in
    let Text2 : Bool × (List (List ℕ) × List Row) → List ℕ = both_text bool_text Text3 in
    let May2 : Bool × (List (List ℕ) × List Row) → Type 0 = λ p. Unit {0} × May3 p.1 in
    let at2 : Reader (Bool × (List (List ℕ) × List Row)) = both_at (λ (_ : Unit {0}). bool_at) at3 tt in
    let law2 : Reads {B = B} Text2 (λ _ p. May2 p) (λ _. at2) = both_reads {B = B} bool_text Text3 (λ _ _. Unit {0}) (λ _ p. May3 p) (λ _. bool_at) at3 bool_reads law3 in
    let Text1 : NewParts → List ℕ = both_text u64_text Text2 in
    let at1 : Reader NewParts = both_at (λ (_ : Unit {0}). u64_at) at2 tt in
    let law1 : Reads {B = B} Text1 (λ _ p. MayNew p) (λ _. at1) = both_reads {B = B} u64_text Text2 (λ _ n. n < 2 ^ 64) (λ _ p. May2 p) (λ _. u64_at) at2 u64_reads law2 in
    made_some {B = B} new_from Text1 new_after (λ _ p. MayNew p) (λ _ r. IsOf false r) (λ _. at1) law1
    (λ _ p may. new_to p may)
    (λ p. refl)
    (λ _ r is. new_back r is)

pub after_reads : {B : Type 0} (old : Bool) → Reads {B = B} (after_text old) (λ _ r. IsOf old r) (λ _. after_at old)
unfolding after_at
after_reads true = old_reads
after_reads false = new_reads
