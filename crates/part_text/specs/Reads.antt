-- Readers that undo a text: what is read stands there in its one spelling, and each spelling is read. One law for each way
-- to make a text from others.
use Rattle.std.proofs.Common.{◌≡◌, ℕ, ℤ, zero, suc, ◌+◌, ◌^◌, ◌<◌, ◌≤◌, Bool, true, false, cond, ltb, List, [], ◌∷◌, ◌++◌, length, get_or, take, drop, Option, Some, None, refl, sym, ap, subst, ◌∙◌, append_assoc, arith, inl, inr, w64, FitsSigned, pos, negsuc, to_z, ◌-◌}
use Rattle.std.specs.Int.{Width, w32, byte_len, from_le_bytes, to_le_bytes, cast_signed, cast_unsigned}
use Rattle.std.specs.List.{flat_map}
use Rattle.std.proofs.lemmas.Bool.{cases_lt, ltb-false, le-ltb}
use Rattle.std.proofs.lemmas.Int.{to_z-of_z, of_z-to_z, to_z_pos}
use Rattle.std.proofs.Math.Facts.{to_z-neg}
use Rattle.std.proofs.lemmas.List.{take_at, drop_at, take-append-drop, length-append, length-take, get_or-drop, get_or-take, get_or_past}
use Rattle.std.proofs.lemmas.Nat.{le_bytes_4, le_bytes_8, from_le_bytes-to_le_bytes_4, from_le_bytes-to_le_bytes_8}
use Rattle.part_text.specs.Text.{u32_text, u64_text, i64_text, string_text, counted_text}
use Rattle.part_text.specs.Front.{first_u32, first_u64, first_i64}
use Rattle.part_text.specs.Reading.{◌>>=◌, Reader, number_at, u32_at, u64_at, i64_at, string_at, both_at, tested_at, made_at, many_at, counted_at}

-- each byte is below 256
abbrev pub IsBytes : List ℕ → Type 0
IsBytes bytes = (i : ℕ) → get_or bytes i 0 < 256

pub IsBytes-drop : (n : ℕ) (bytes : List ℕ) → IsBytes bytes → IsBytes (drop n bytes)
IsBytes-drop n bytes fits i = rw get_or-drop (fits (n + i))

pub IsBytes-take : (n : ℕ) (bytes : List ℕ) → IsBytes bytes → IsBytes (take n bytes)
IsBytes-take n bytes fits i =
    elim (cases_lt i n) [
      | inl below ↦ rw (get_or-take n bytes i 0 below) (fits i)
      | inr past ↦ rw (get_or_past (take n bytes) i 0 (omega (arith, length-take n bytes))) (omega arith)
    ]

-- what stands behind a text
pub IsBytes-rest : (bytes text rest : List ℕ) → IsBytes bytes → bytes ≡ text ++ rest → IsBytes rest
IsBytes-rest bytes text rest fits parts =
    subst IsBytes (ap (drop (length text)) parts ∙ drop_at text rest (length text) refl) (IsBytes-drop (length text) bytes fits)

-- two texts one behind the other
joined : (bytes one middle other rest : List ℕ) → bytes ≡ one ++ middle → middle ≡ other ++ rest → bytes ≡ (one ++ other) ++ rest
joined bytes one middle other rest first second = first ∙ ap (λ behind. one ++ behind) second ∙ sym (append_assoc one other rest)

-- what a reader takes of an item that may stand behind `before` is the item's text, and it reads such an item again
pub record Reads {B X : Type 0} (text : X → List ℕ) (May : B → X → Type 0) (item : B → Reader X) : Type 0 where
  pub takes : (before : B) (bytes : List ℕ) (x : X) (rest : List ℕ) → IsBytes bytes → item before bytes ≡ Some (x, rest) → May before x × (bytes ≡ text x ++ rest)
  pub again : (before : B) (x : X) (rest : List ℕ) → May before x → item before (text x ++ rest) ≡ Some (x, rest)

-- the value of a step that gave one
pub bind_some : {A B : Type 0} (read : Option A) (f : A → Option B) (y : B) → (read >>= f) ≡ Some y → (x : A) × (read ≡ Some x) × (f x ≡ Some y)
bind_some (Some x) f y e = (x, refl, e)
bind_some None f y e = absurd cc

-- a test that let a value through
guard_none : {A : Type 0} (b : Bool) (x y : A) → cond b None (Some x) ≡ Some y → (b ≡ false) × (x ≡ y)
guard_none true x y e = absurd cc
guard_none false x y e = (refl, cc)

guard_some : {A : Type 0} (b : Bool) (x y : A) → cond b (Some x) None ≡ Some y → (b ≡ true) × (x ≡ y)
guard_some true x y e = (refl, cc)
guard_some false x y e = absurd cc

some_is : {A : Type 0} (x y : A) → ◌≡◌ {A = Option A} (Some x) (Some y) → x ≡ y
some_is x y e = cc

-- the same things under another name
pub reads_as : {B X : Type 0} (text : X → List ℕ) (May Other : B → X → Type 0) (item : B → Reader X) → Reads text May item → ((before : B) (x : X) → May before x → Other before x) → ((before : B) (x : X) → Other before x → May before x) → Reads text Other item
reads_as text May Other item law to from = record {
  takes = λ before bytes x rest fits e. let t = law.takes before bytes x rest fits e in (to before x t.0, t.1);
  again = λ before x rest may. law.again before x rest (from before x may);
}

-- ---- numbers

record IsWide (w : Width) (limit : ℕ) : Type 0 where
  long : (n : ℕ) → length (to_le_bytes w n) ≡ byte_len w
  back : (bytes : List ℕ) → length bytes ≡ byte_len w → IsBytes bytes → to_le_bytes w (from_le_bytes w bytes) ≡ bytes
  again : (n : ℕ) → n < limit → from_le_bytes w (to_le_bytes w n) ≡ n
  below : (bytes : List ℕ) → IsBytes bytes → from_le_bytes w bytes < limit

wide32 : IsWide w32 (2 ^ 32)
wide32 = record {
  long = λ n. refl;
  back = λ bytes long fits. le_bytes_4 bytes _ long fits refl;
  again = λ n below. from_le_bytes-to_le_bytes_4 n below;
  below = λ bytes fits. omega (arith, fits 0, fits 1, fits 2, fits 3);
}

wide64 : IsWide w64 (2 ^ 64)
wide64 = record {
  long = λ n. refl;
  back = λ bytes long fits. le_bytes_8 bytes _ long fits refl;
  again = λ n below. from_le_bytes-to_le_bytes_8 n below;
  below = λ bytes fits. omega (arith, fits 0, fits 1, fits 2, fits 3, fits 4, fits 5, fits 6, fits 7);
}

number_takes : (w : Width) (limit : ℕ) (wide : IsWide w limit) (bytes : List ℕ) (n : ℕ) (rest : List ℕ) → IsBytes bytes → number_at w bytes ≡ Some (n, rest) → (n < limit) × (bytes ≡ to_le_bytes w n ++ rest)
number_takes w limit wide bytes n rest fits e =
    let g = guard_none (ltb (length bytes) (byte_len w)) (from_le_bytes w (take (byte_len w) bytes), drop (byte_len w) bytes) (n, rest) e in
    let long : byte_len w ≤ length bytes = ltb-false _ _ g.0 in
    let n-is : from_le_bytes w (take (byte_len w) bytes) ≡ n = ap (λ (p : ℕ × List ℕ). p.0) g.1 in
    let rest-is : drop (byte_len w) bytes ≡ rest = ap (λ (p : ℕ × List ℕ). p.1) g.1 in
    let front : to_le_bytes w n ≡ take (byte_len w) bytes = rw (← n-is) (wide.back (take (byte_len w) bytes) (omega (arith, length-take (byte_len w) bytes)) (IsBytes-take (byte_len w) bytes fits)) in
    (rw (← n-is) (wide.below (take (byte_len w) bytes) (IsBytes-take (byte_len w) bytes fits)), rw (front, ← rest-is) (sym (take-append-drop (byte_len w) bytes)))

number_again : (w : Width) (limit : ℕ) (wide : IsWide w limit) (n : ℕ) (rest : List ℕ) → n < limit → number_at w (to_le_bytes w n ++ rest) ≡ Some (n, rest)
number_again w limit wide n rest below =
    let long = wide.long n in
    let enough : ltb (length (to_le_bytes w n ++ rest)) (byte_len w) ≡ false = le-ltb _ _ (omega (arith, length-append (to_le_bytes w n) rest)) in
    rw (enough, take_at (to_le_bytes w n) rest (byte_len w) long, drop_at (to_le_bytes w n) rest (byte_len w) long, wide.again n below) refl

pub u32_reads : {B : Type 0} → Reads {B = B} u32_text (λ _ n. n < 2 ^ 32) (λ _. u32_at)
unfolding u32_text u32_at
u32_reads = record {
  takes = λ before bytes n rest fits e. number_takes w32 (2 ^ 32) wide32 bytes n rest fits e;
  again = λ before n rest below. number_again w32 (2 ^ 32) wide32 n rest below;
}

pub u64_reads : {B : Type 0} → Reads {B = B} u64_text (λ _ n. n < 2 ^ 64) (λ _. u64_at)
unfolding u64_text u64_at
u64_reads = record {
  takes = λ before bytes n rest fits e. number_takes w64 (2 ^ 64) wide64 bytes n rest fits e;
  again = λ before n rest below. number_again w64 (2 ^ 64) wide64 n rest below;
}

pub length-u32_text : (n : ℕ) → length (u32_text n) ≡ 4
unfolding u32_text
length-u32_text n = refl

pub length-u64_text : (n : ℕ) → length (u64_text n) ≡ 8
unfolding u64_text
length-u64_text n = refl

unsigned_below : (z : ℤ) → FitsSigned w64 z → cast_unsigned w64 z < 2 ^ 64
unsigned_below (pos n) fits = omega arith
unsigned_below (negsuc n) fits = omega arith

signed_fits : (n : ℕ) → n < 2 ^ 64 → FitsSigned w64 (cast_signed w64 n)
signed_fits n below = elim (cases_lt n (2 ^ 63)) [
  | inl low ↦ let e : to_z w64 n ≡ pos n = to_z_pos w64 n low in subst (FitsSigned w64) (sym e) (record { sfits = low })
  | inr high ↦
      let under = 2 ^ 64 - suc n in
      let bits : n ≡ 2 ^ 64 - suc under = omega arith in
      let e : to_z w64 n ≡ negsuc under = ap (to_z w64) bits ∙ to_z-neg w64 under (omega arith) in
      subst (FitsSigned w64) (sym e) (record { sfits = omega arith })
]

-- signed numbers are those of eight bytes in two's complement
pub i64_reads : {B : Type 0} → Reads {B = B} i64_text (λ _ z. FitsSigned w64 z) (λ _. i64_at)
unfolding i64_text i64_at
i64_reads {B} = record {
  takes = λ before bytes z rest fits e.
      let a = bind_some (u64_at bytes) (λ (n : ℕ × List ℕ). Some (cast_signed w64 n.0, n.1)) (z, rest) e in
      let t = (u64_reads {B = B}).takes before bytes a.0.0 a.0.1 fits a.1 in
      let parts : bytes ≡ u64_text (cast_unsigned w64 (cast_signed w64 a.0.0)) ++ a.0.1 = t.1 ∙ ap (λ n. u64_text n ++ a.0.1) (sym (of_z-to_z w64 a.0.0 t.0)) in
      let made : ℤ × List ℕ = (cast_signed w64 a.0.0, a.0.1) in
      subst (λ (p : ℤ × List ℕ). FitsSigned w64 p.0 × (bytes ≡ u64_text (cast_unsigned w64 p.0) ++ p.1)) (some_is made (z, rest) a.2) (signed_fits a.0.0 t.0, parts);
  again = λ before z rest fits.
      rw ((u64_reads {B = B}).again before (cast_unsigned w64 z) rest (unsigned_below z fits), to_z-of_z w64 z fits) refl;
}

pub length-i64_text : (z : ℤ) → length (i64_text z) ≡ 8
unfolding i64_text
length-i64_text z = length-u64_text (cast_unsigned w64 z)

pub ruleset number_lengths = (length-u32_text, length-u64_text, length-i64_text)

-- ---- byte strings

pub string_reads : {B : Type 0} → Reads {B = B} string_text (λ _ bytes. length bytes < 2 ^ 32) (λ _. string_at)
unfolding string_at
string_reads {B} = record {
  takes = λ before bytes text rest fits e.
      let b = bind_some (u32_at bytes) (λ (n : ℕ × List ℕ). cond (ltb (length n.1) n.0) None (Some (take n.0 n.1, drop n.0 n.1))) (text, rest) e in
      let n : ℕ × List ℕ = b.0 in
      let t = (u32_reads {B = B}).takes before bytes n.0 n.1 fits b.1 in
      let g = guard_none (ltb (length n.1) n.0) (take n.0 n.1, drop n.0 n.1) (text, rest) b.2 in
      let enough : n.0 ≤ length n.1 = ltb-false _ _ g.0 in
      let long : length (take n.0 n.1) ≡ n.0 = omega (arith, length-take n.0 n.1) in
      let parts : bytes ≡ string_text (take n.0 n.1) ++ drop n.0 n.1 =
      joined bytes (u32_text n.0) n.1 (take n.0 n.1) (drop n.0 n.1) t.1 (sym (take-append-drop n.0 n.1)) ∙ ap (λ (k : ℕ). (u32_text k ++ take n.0 n.1) ++ drop n.0 n.1) (sym long) in
      subst (λ (p : List ℕ × List ℕ). (length p.0 < 2 ^ 32) × (bytes ≡ string_text p.0 ++ p.1)) g.1 (omega (arith, t.0), parts);
  again = λ before text rest short.
      let enough : ltb (length (text ++ rest)) (length text) ≡ false = le-ltb _ _ (omega (arith, length-append text rest)) in
      rw (append_assoc (u32_text (length text)) text rest, (u32_reads {B = B}).again before (length text) (text ++ rest) short, enough, take_at text rest (length text) refl, drop_at text rest (length text) refl) refl;
}

-- ---- one behind another, and tests

abbrev pub both_text : {X Y : Type 0} → (X → List ℕ) → (Y → List ℕ) → X × Y → List ℕ
both_text one other pair = one pair.0 ++ other pair.1

pub both_reads : {B X Y : Type 0} (one_text : X → List ℕ) (other_text : Y → List ℕ) (MayOne : B → X → Type 0) (MayOther : B → Y → Type 0) (one : B → Reader X) (other : Reader Y) → Reads one_text MayOne one → Reads other_text MayOther (λ _. other) → Reads (both_text one_text other_text) (λ before pair. MayOne before pair.0 × MayOther before pair.1) (both_at one other)
both_reads {B} {X} {Y} one_text other_text MayOne MayOther one other first second = record {
  takes = λ before bytes pair rest fits e.
      let a = bind_some (one before bytes) (λ (x : X × List ℕ). other x.1 >>= λ (y : Y × List ℕ). Some ((x.0, y.0), y.1)) (pair, rest) e in
      let b = bind_some (other a.0.1) (λ (y : Y × List ℕ). Some ((a.0.0, y.0), y.1)) (pair, rest) a.2 in
      let t0 = first.takes before bytes a.0.0 a.0.1 fits a.1 in
      let t1 = second.takes before a.0.1 b.0.0 b.0.1 (IsBytes-rest bytes (one_text a.0.0) a.0.1 fits t0.1) b.1 in
      let parts : bytes ≡ (one_text a.0.0 ++ other_text b.0.0) ++ b.0.1 = joined bytes (one_text a.0.0) a.0.1 (other_text b.0.0) b.0.1 t0.1 t1.1 in
      let made : (X × Y) × List ℕ = ((a.0.0, b.0.0), b.0.1) in
      subst (λ (p : (X × Y) × List ℕ). (MayOne before p.0.0 × MayOther before p.0.1) × (bytes ≡ both_text one_text other_text p.0 ++ p.1)) (some_is made (pair, rest) b.2) ((t0.0, t1.0), parts);
  again = λ before pair rest may.
      rw (append_assoc (one_text pair.0) (other_text pair.1) rest, first.again before pair.0 (other_text pair.1 ++ rest) may.0, second.again before pair.1 rest may.1) refl;
}

pub tested_reads : {B X : Type 0} (text : X → List ℕ) (May Passes : B → X → Type 0) (test : B → X → Bool) (item : Reader X) → Reads text May (λ _. item) → ((before : B) (x : X) → test before x ≡ true → Passes before x) → ((before : B) (x : X) → Passes before x → test before x ≡ true) → Reads text (λ before x. May before x × Passes before x) (tested_at test item)
tested_reads {B} {X} text May Passes test item law passes tests = record {
  takes = λ before bytes x rest fits e.
      let a = bind_some (item bytes) (λ (p : X × List ℕ). cond (test before p.0) (Some p) None) (x, rest) e in
      let g = guard_some (test before a.0.0) a.0 (x, rest) a.2 in
      let t = law.takes before bytes a.0.0 a.0.1 fits a.1 in
      subst (λ (p : X × List ℕ). (May before p.0 × Passes before p.0) × (bytes ≡ text p.0 ++ p.1)) g.1 ((t.0, passes before a.0.0 g.0), t.1);
  again = λ before x rest may. rw (law.again before x rest may.0, tests before x may.1) refl;
}

-- `parts` undoes `make`
pub made_reads : {B X Y : Type 0} (make : X → Y) (parts : Y → X) (text : X → List ℕ) (May : B → X → Type 0) (item : B → Reader X) → Reads text May item → ((x : X) → parts (make x) ≡ x) → ((y : Y) → make (parts y) ≡ y) → Reads (λ y. text (parts y)) (λ before y. May before (parts y)) (made_at make item)
made_reads {B} {X} {Y} make parts text May item law undoes makes = record {
  takes = λ before bytes y rest fits e.
      let a = bind_some (item before bytes) (λ (p : X × List ℕ). Some (make p.0, p.1)) (y, rest) e in
      let t = law.takes before bytes a.0.0 a.0.1 fits a.1 in
      let made : Y × List ℕ = (make a.0.0, a.0.1) in
      let back : a.0.0 ≡ parts (make a.0.0) = sym (undoes a.0.0) in
      let there : May before (parts (make a.0.0)) × (bytes ≡ text (parts (make a.0.0)) ++ a.0.1) = subst (λ (x : X). May before x × (bytes ≡ text x ++ a.0.1)) back t in
      subst (λ (p : Y × List ℕ). May before (parts p.0) × (bytes ≡ text (parts p.0) ++ p.1)) (some_is made (y, rest) a.2) there;
  again = λ before y rest may. rw (law.again before (parts y) rest may, makes y) refl;
}

-- ---- lists

-- each item may follow the key of the one before it
abbrev pub Follow : {K X : Type 0} → (X → K) → (Option K → X → Type 0) → Option K → List X → Type 0
Follow key May before [] = Unit {0}
Follow key May before (item ∷ items) = May before item × Follow key May (Some (key item)) items

pub many_take : {K X : Type 0} (key : X → K) (text : X → List ℕ) (May : Option K → X → Type 0) (item : Option K → Reader X) → Reads text May item → (before : Option K) (count : ℕ) (bytes : List ℕ) (xs : List X) (rest : List ℕ) → IsBytes bytes → many_at key item before count bytes ≡ Some (xs, rest) → (length xs ≡ count) × Follow key May before xs × (bytes ≡ flat_map text xs ++ rest)
unfolding many_at
many_take {K} {X} key text May item law before zero bytes xs rest fits e =
    subst (λ (p : List X × List ℕ). (length p.0 ≡ zero) × Follow key May before p.0 × (bytes ≡ flat_map text p.0 ++ p.1)) (some_is ([], bytes) (xs, rest) e) (refl, tt, refl)
many_take {K} {X} key text May item law before (suc count) bytes xs rest fits e =
    let a = bind_some (item before bytes) (λ (x : X × List ℕ). many_at key item (Some (key x.0)) count x.1 >>= λ (others : List X × List ℕ). Some (x.0 ∷ others.0, others.1)) (xs, rest) e in
    let b = bind_some (many_at key item (Some (key a.0.0)) count a.0.1) (λ (others : List X × List ℕ). Some (a.0.0 ∷ others.0, others.1)) (xs, rest) a.2 in
    let first = law.takes before bytes a.0.0 a.0.1 fits a.1 in
    let more = many_take key text May item law (Some (key a.0.0)) count a.0.1 b.0.0 b.0.1 (IsBytes-rest bytes (text a.0.0) a.0.1 fits first.1) b.1 in
    let parts : bytes ≡ flat_map text (a.0.0 ∷ b.0.0) ++ b.0.1 = joined bytes (text a.0.0) a.0.1 (flat_map text b.0.0) b.0.1 first.1 more.2 in
    let made : List X × List ℕ = (a.0.0 ∷ b.0.0, b.0.1) in
    subst (λ (p : List X × List ℕ). (length p.0 ≡ suc count) × Follow key May before p.0 × (bytes ≡ flat_map text p.0 ++ p.1)) {x = made} (some_is made (xs, rest) b.2) (ap suc more.0, (first.0, more.1), parts)

pub many_again : {K X : Type 0} (key : X → K) (text : X → List ℕ) (May : Option K → X → Type 0) (item : Option K → Reader X) → Reads text May item → (before : Option K) (xs : List X) (rest : List ℕ) → Follow key May before xs → many_at key item before (length xs) (flat_map text xs ++ rest) ≡ Some (xs, rest)
unfolding many_at
many_again key text May item law before [] rest may = refl
many_again key text May item law before (x ∷ xs) rest may =
    rw (append_assoc (text x) (flat_map text xs) rest, law.again before x (flat_map text xs ++ rest) may.0, many_again key text May item law (Some (key x)) xs rest may.1) refl

pub counted_reads : {B K X : Type 0} (limit : ℕ) (number_text : ℕ → List ℕ) (number : Reader ℕ) (key : X → K) (text : X → List ℕ) (May : Option K → X → Type 0) (item : Option K → Reader X) → Reads {B = B} number_text (λ _ n. n < limit) (λ _. number) → Reads text May item → Reads {B = B} (counted_text number_text text) (λ _ xs. (length xs < limit) × Follow key May None xs) (λ _. counted_at number key item)
unfolding counted_at
counted_reads {B} {K} {X} limit number_text number key text May item numbers law = record {
  takes = λ before bytes xs rest fits e.
      let a = bind_some (number bytes) (λ (n : ℕ × List ℕ). many_at key item None n.0 n.1) (xs, rest) e in
      let first = numbers.takes before bytes a.0.0 a.0.1 fits a.1 in
      let more = many_take key text May item law None a.0.0 a.0.1 xs rest (IsBytes-rest bytes (number_text a.0.0) a.0.1 fits first.1) a.2 in
      let parts : bytes ≡ (number_text (length xs) ++ flat_map text xs) ++ rest = joined bytes (number_text a.0.0) a.0.1 (flat_map text xs) rest first.1 more.2 ∙ ap (λ (k : ℕ). (number_text k ++ flat_map text xs) ++ rest) (sym more.0) in
      ((omega (arith, first.0, more.0), more.1), parts);
  again = λ before xs rest may.
      rw (append_assoc (number_text (length xs)) (flat_map text xs) rest, numbers.again before (length xs) (flat_map text xs ++ rest) may.0) (many_again key text May item law None xs rest may.1);
}

-- an item and what stands behind it are one way to part the bytes
pub reads_once : {B X : Type 0} (text : X → List ℕ) (May : B → X → Type 0) (item : B → Reader X) → Reads text May item → (before : B) (one other : X) (rest more : List ℕ) → May before one → May before other → text one ++ rest ≡ text other ++ more → (one ≡ other) × (rest ≡ more)
reads_once {B} {X} text May item law before one other rest more first second same =
    let e : (one, rest) ≡ (other, more) = some_is (one, rest) (other, more) (sym (law.again before one rest first) ∙ ap (item before) same ∙ law.again before other more second) in
    (ap (λ (p : X × List ℕ). p.0) e, ap (λ (p : X × List ℕ). p.1) e)

-- ---- numbers at the front of bytes

pub first_u32-text : (n : ℕ) (rest : List ℕ) → n < 2 ^ 32 → first_u32 (u32_text n ++ rest) ≡ n
unfolding first_u32 u32_text
first_u32-text n rest below = ap (from_le_bytes w32) (take_at (to_le_bytes w32 n) rest 4 refl) ∙ from_le_bytes-to_le_bytes_4 n below

pub first_u64-text : (n : ℕ) (rest : List ℕ) → n < 2 ^ 64 → first_u64 (u64_text n ++ rest) ≡ n
unfolding first_u64 u64_text
first_u64-text n rest below = ap (from_le_bytes w64) (take_at (to_le_bytes w64 n) rest 8 refl) ∙ from_le_bytes-to_le_bytes_8 n below

pub first_i64-text : (z : ℤ) (rest : List ℕ) → FitsSigned w64 z → first_i64 (i64_text z ++ rest) ≡ z
unfolding first_i64 i64_text
first_i64-text z rest fits = ap (cast_signed w64) (first_u64-text (cast_unsigned w64 z) rest (unsigned_below z fits)) ∙ to_z-of_z w64 z fits
