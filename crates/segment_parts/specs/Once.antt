-- Texts that bytes begin with in one way at most, and lists of such texts.
use Rattle.std.proofs.Common.{◌≡◌, ℕ, ◌+◌, ◌-◌, ◌*◌, ◌<◌, ◌≤◌, ◌^◌, false, ltb, List, [], ◌∷◌, ◌++◌, length, drop, Some, None, All, refl, sym, ap, ◌∙◌, append_assoc, arith}
use Rattle.std.specs.List.{flat_map}
use Rattle.std.proofs.lemmas.List.{append-nil, length_push, length-drop}
use Rattle.std.proofs.lemmas.Bool.{le-ltb}
use Rattle.std.proofs.lemmas.Option.{none-some}
use Rattle.std.proofs.lemmas.List.Concat.{flat_map-append}
use Rattle.std.proofs.lemmas.List.Elements.{All-nil, All-push, All-head, All-tail}
use Rattle.part_text.specs.Text.{u32_text, u64_text, counted_text}
use Rattle.part_text.specs.Reading.{u32_at, u64_at}
use Rattle.part_text.specs.Reads.{IsBytes, IsBytes-rest, u32_reads, u64_reads, reads_once}
use Rattle.part_text.specs.Front.{first_u64}

-- bytes begin with the text of a thing, and go on with the rest
pub record IsTaken {X : Type 0} (text : X → List ℕ) (May : X → Type 0) (bytes : List ℕ) (x : X) (rest : List ℕ) : Type 0 where
  pub may : May x
  pub parts : bytes ≡ text x ++ rest

-- bytes that begin with the text of no such thing
abbrev pub IsNowhere : {X : Type 0} → (X → List ℕ) → (X → Type 0) → List ℕ → Type 0
IsNowhere {X} text May bytes = (x : X) (rest : List ℕ) → May x → bytes ≡ text x ++ rest → ⊥

-- two such things at the front of the same bytes are one
abbrev pub IsOnce : {X : Type 0} → (X → List ℕ) → (X → Type 0) → Type 0
IsOnce {X} text May = (one other : X) (rest more : List ℕ) → May one → May other → text one ++ rest ≡ text other ++ more → (one ≡ other) × (rest ≡ more)

-- so many things
pub record AreSo {X : Type 0} (May : X → Type 0) (count : ℕ) (xs : List X) : Type 0 where
  pub long : length xs ≡ count
  pub each : All May xs

-- a list that is read: those of its things that were taken, and the bytes that are left
pub record IsTaking {X : Type 0} (text : X → List ℕ) (May : X → Type 0) (bytes : List ℕ) (xs : List X) (rest : List ℕ) : Type 0 where
  pub each : All May xs
  pub parts : bytes ≡ flat_map text xs ++ rest

pub taking_none : {X : Type 0} (text : X → List ℕ) (May : X → Type 0) (bytes : List ℕ) → IsTaking text May bytes [] bytes
taking_none text May bytes = record { each = All-nil May; parts = refl }

pub taking_more : {X : Type 0} (text : X → List ℕ) (May : X → Type 0) (bytes : List ℕ) (xs : List X) (rest : List ℕ) (x : X) (after : List ℕ) → IsTaking text May bytes xs rest → May x → rest ≡ text x ++ after → IsTaking text May bytes (xs ++ x ∷ []) after
taking_more text May bytes xs rest x after was may parts =
    let pushed : flat_map text (xs ++ x ∷ []) ≡ flat_map text xs ++ text x = flat_map-append text xs (x ∷ []) ∙ ap (λ last. flat_map text xs ++ last) (append-nil (text x)) in
    record {
      each = All-push May xs x was.each may;
      parts = was.parts ∙ ap (λ behind. flat_map text xs ++ behind) parts ∙ sym (append_assoc (flat_map text xs) (text x) after) ∙ ap (λ front. front ++ after) (sym pushed);
    }

-- lists of as many things, too, stand at the front of bytes in one way at most
pub many_once : {X : Type 0} (text : X → List ℕ) (May : X → Type 0) → IsOnce text May → (xs ys : List X) (rest more : List ℕ) → length xs ≡ length ys → All May xs → All May ys → flat_map text xs ++ rest ≡ flat_map text ys ++ more → (xs ≡ ys) × (rest ≡ more)
many_once text May once [] [] rest more long may other same = (refl, same)
many_once text May once [] (y ∷ ys) rest more long may other same = absurd (omega arith)
many_once text May once (x ∷ xs) [] rest more long may other same = absurd (omega arith)
many_once text May once (x ∷ xs) (y ∷ ys) rest more long may other same =
    let first = once x y (flat_map text xs ++ rest) (flat_map text ys ++ more) (All-head May x xs may) (All-head May y ys other)
    (sym (append_assoc (text x) (flat_map text xs) rest) ∙ same ∙ append_assoc (text y) (flat_map text ys) more) in
    let others = many_once text May once xs ys rest more (omega arith) (All-tail May x xs may) (All-tail May y ys other) first.1 in
    (ap (λ head. head ∷ xs) first.0 ∙ ap (λ tail. y ∷ tail) others.0, others.1)

-- where what is left begins with no such thing, no longer list stands there
pub many_nowhere : {X : Type 0} (text : X → List ℕ) (May : X → Type 0) → IsOnce text May → (front xs : List X) (here more : List ℕ) → All May front → All May xs → length front < length xs → IsNowhere text May here → flat_map text front ++ here ≡ flat_map text xs ++ more → ⊥
many_nowhere text May once front [] here more may other less never same = omega arith
many_nowhere text May once [] (x ∷ xs) here more may other less never same =
    never x (flat_map text xs ++ more) (All-head May x xs other) (same ∙ append_assoc (text x) (flat_map text xs) more)
many_nowhere text May once (f ∷ front) (x ∷ xs) here more may other less never same =
    let first = once f x (flat_map text front ++ here) (flat_map text xs ++ more) (All-head May f front may) (All-head May x xs other)
    (sym (append_assoc (text f) (flat_map text front) here) ∙ same ∙ append_assoc (text x) (flat_map text xs) more) in
    many_nowhere text May once front xs here more (All-tail May f front may) (All-tail May x xs other) (omega arith) never first.1

-- numbers
pub once_u32 : IsOnce u32_text (λ number. number < 2 ^ 32)
once_u32 = reads_once {B = Unit {0}} u32_text (λ _ number. number < 2 ^ 32) (λ _. u32_at) u32_reads tt

pub once_u64 : IsOnce u64_text (λ number. number < 2 ^ 64)
once_u64 = reads_once {B = Unit {0}} u64_text (λ _ number. number < 2 ^ 64) (λ _. u64_at) u64_reads tt

-- lists behind their number
abbrev pub AreFew : {X : Type 0} → (X → Type 0) → List X → Type 0
AreFew May xs = (length xs < 2 ^ 32) × All May xs

pub counted_once : {X : Type 0} (text : X → List ℕ) (May : X → Type 0) → IsOnce text May → IsOnce (counted_text u32_text text) (AreFew May)
counted_once text May once xs ys rest more may other same =
    let count = once_u32 (length xs) (length ys) (flat_map text xs ++ rest) (flat_map text ys ++ more) may.0 other.0
    (sym (append_assoc (u32_text (length xs)) (flat_map text xs) rest) ∙ same ∙ append_assoc (u32_text (length ys)) (flat_map text ys) more) in
    many_once text May once xs ys rest more count.0 may.1 other.1 count.1

-- the same under a stronger condition
pub once_as : {X : Type 0} (text : X → List ℕ) (May Other : X → Type 0) → IsOnce text May → ((x : X) → Other x → May x) → IsOnce text Other
once_as text May Other once weaker one other rest more first second same = once one other rest more (weaker one first) (weaker other second) same

-- no number, no list
pub counted_nowhere : {X : Type 0} (text : X → List ℕ) (May : X → Type 0) (bytes : List ℕ) → IsNowhere u32_text (λ number. number < 2 ^ 32) bytes → IsNowhere (counted_text u32_text text) (AreFew May) bytes
counted_nowhere text May bytes never xs rest may parts = never (length xs) (flat_map text xs ++ rest) may.0 (parts ∙ append_assoc (u32_text (length xs)) (flat_map text xs) rest)

-- a number, and behind it not so many things
pub counted_breaks : {X : Type 0} (text : X → List ℕ) (May : X → Type 0) (bytes : List ℕ) (count : ℕ) (first : List ℕ) → IsTaken u32_text (λ number. number < 2 ^ 32) bytes count first → ((xs : List X) (rest : List ℕ) → length xs ≡ count → All May xs → first ≡ flat_map text xs ++ rest → ⊥) → IsNowhere (counted_text u32_text text) (AreFew May) bytes
counted_breaks text May bytes count first taken never xs rest may parts =
    let same = once_u32 count (length xs) first (flat_map text xs ++ rest) taken.may may.0 (sym taken.parts ∙ parts ∙ append_assoc (u32_text (length xs)) (flat_map text xs) rest) in
    never xs rest (sym same.0) may.1 same.1

-- a list that was read behind its number
pub counted_taken : {X : Type 0} (text : X → List ℕ) (May : X → Type 0) (bytes : List ℕ) (count : ℕ) (first : List ℕ) (xs : List X) (rest : List ℕ) → IsTaken u32_text (λ number. number < 2 ^ 32) bytes count first → IsTaking text May first xs rest → length xs ≡ count → IsTaken (counted_text u32_text text) (AreFew May) bytes xs rest
counted_taken text May bytes count first xs rest taken all long = record {
  may = (omega (arith, taken.may, long), all.each);
  parts = taken.parts ∙ ap (λ behind. u32_text count ++ behind) all.parts ∙ ap (λ n. u32_text n ++ (flat_map text xs ++ rest)) (sym long) ∙ sym (append_assoc (u32_text (length xs)) (flat_map text xs) rest);
}

-- a list of which some thing isn't there
pub counted_ends : {X : Type 0} (text : X → List ℕ) (May : X → Type 0) (bytes : List ℕ) (count : ℕ) (first : List ℕ) (front : List X) (here : List ℕ) → IsOnce text May → IsTaken u32_text (λ number. number < 2 ^ 32) bytes count first → IsTaking text May first front here → length front < count → IsNowhere text May here → IsNowhere (counted_text u32_text text) (AreFew May) bytes
counted_ends text May bytes count first front here once taken so_far less never =
    counted_breaks text May bytes count first taken (λ xs rest long may parts. many_nowhere text May once front xs here rest so_far.each may (omega (arith, less, long)) never (sym so_far.parts ∙ parts))

-- ---- loops over things

-- `at` things were taken
pub record IsReading {X : Type 0} (text : X → List ℕ) (May : X → Type 0) (bytes : List ℕ) (xs : List X) (rest : List ℕ) (at : ℕ) : Type 0 where
  pub taking : IsTaking text May bytes xs rest
  pub long : length xs ≡ at

pub reading_none : {X : Type 0} (text : X → List ℕ) (May : X → Type 0) (bytes : List ℕ) → IsReading text May bytes [] bytes 0
reading_none text May bytes = record { taking = taking_none text May bytes; long = refl }

pub reading_more : {X : Type 0} (text : X → List ℕ) (May : X → Type 0) (bytes : List ℕ) (xs : List X) (rest : List ℕ) (at : ℕ) (x : X) (after : List ℕ) → IsReading text May bytes xs rest at → IsTaken text May rest x after → IsReading text May bytes (xs ++ x ∷ []) after (at + 1)
reading_more text May bytes xs rest at x after was taken = record {
  taking = taking_more text May bytes xs rest x after was.taking taken.may taken.parts;
  long = length_push xs x ∙ ap (λ n. n + 1) was.long;
}

-- all were read
pub reading_ends : {X : Type 0} (text : X → List ℕ) (May : X → Type 0) (bytes : List ℕ) (count : ℕ) (first : List ℕ) (xs : List X) (rest : List ℕ) (at : ℕ) → IsTaken u32_text (λ number. number < 2 ^ 32) bytes count first → IsReading text May first xs rest at → at ≤ count → count ≤ at → IsTaken (counted_text u32_text text) (AreFew May) bytes xs rest
reading_ends text May bytes count first xs rest at number was within past = counted_taken text May bytes count first xs rest number was.taking (omega (arith, was.long))

-- one isn't there
pub reading_fails : {X : Type 0} (text : X → List ℕ) (May : X → Type 0) (bytes : List ℕ) (count : ℕ) (first : List ℕ) (xs : List X) (rest : List ℕ) (at : ℕ) → IsOnce text May → IsTaken u32_text (λ number. number < 2 ^ 32) bytes count first → IsReading text May first xs rest at → at < count → IsNowhere text May rest → IsNowhere (counted_text u32_text text) (AreFew May) bytes
reading_fails text May bytes count first xs rest at once number was less never = counted_ends text May bytes count first xs rest once number was.taking (omega (arith, was.long, less)) never

pub ruleset readings = (reading_none, reading_more)

-- ---- numbers of eight bytes, of which there are enough

pub record AreWords (bytes words rest : List ℕ) (count at : ℕ) : Type 0 where
  pub parts : bytes ≡ flat_map u64_text words ++ rest
  pub long : length words ≡ at
  pub left : 8 * (count - at) ≤ length rest
  pub fit : All (λ word. word < 2 ^ 64) words

pub words_none : (bytes : List ℕ) (count : ℕ) → 8 * count ≤ length bytes → AreWords bytes [] bytes count 0
words_none bytes count enough = record { parts = refl; long = refl; left = omega arith; fit = All-nil (λ word. word < 2 ^ 64) }

-- the number that stands in front
pub word_first : (bytes : List ℕ) → IsBytes bytes → 8 ≤ length bytes → (first_u64 bytes < 2 ^ 64) × (bytes ≡ u64_text (first_u64 bytes) ++ drop 8 bytes)
unfolding u64_at first_u64
word_first bytes fits enough =
    let read : u64_at bytes ≡ Some (first_u64 bytes, drop 8 bytes) = let e : ltb (length bytes) 8 ≡ false = le-ltb (length bytes) 8 enough in rw e refl in
    (u64_reads {B = Unit {0}}).takes tt bytes (first_u64 bytes) (drop 8 bytes) fits read

pub words_more : (bytes words rest : List ℕ) (count at : ℕ) → AreWords bytes words rest count at → at < count → IsBytes bytes → AreWords bytes (words ++ first_u64 rest ∷ []) (drop 8 rest) count (at + 1)
words_more bytes words rest count at was less fits =
    let own = first_u64 rest in
    let front = word_first rest (IsBytes-rest bytes (flat_map u64_text words) rest fits was.parts) (omega (arith, was.left, less)) in
    let pushed : flat_map u64_text (words ++ own ∷ []) ≡ flat_map u64_text words ++ u64_text own = flat_map-append u64_text words (own ∷ []) ∙ ap (λ last. flat_map u64_text words ++ last) (append-nil (u64_text own)) in
    record {
      parts = was.parts ∙ ap (λ behind. flat_map u64_text words ++ behind) front.1 ∙ sym (append_assoc (flat_map u64_text words) (u64_text own) (drop 8 rest)) ∙ ap (λ done. done ++ drop 8 rest) (sym pushed);
      long = length_push words own ∙ ap (λ n. n + 1) was.long;
      left = omega (arith, was.left, less, length-drop 8 rest);
      fit = All-push (λ word. word < 2 ^ 64) words own was.fit front.0;
    }

-- ---- from readers

pub taken_u32 : (bytes : List ℕ) (number : ℕ) (rest : List ℕ) → IsBytes bytes → u32_at bytes ≡ Some (number, rest) → IsTaken u32_text (λ number. number < 2 ^ 32) bytes number rest
taken_u32 bytes number rest fits read =
    let took = (u32_reads {B = Unit {0}}).takes tt bytes number rest fits read in
    record { may = took.0; parts = took.1 }

pub nowhere_u32 : (bytes : List ℕ) → u32_at bytes ≡ None → IsNowhere u32_text (λ number. number < 2 ^ 32) bytes
nowhere_u32 bytes none number rest fits parts =
    none-some (number, rest) (sym none ∙ ap u32_at parts ∙ (u32_reads {B = Unit {0}}).again tt number rest fits)
