-- The names of a path, one after the other.
use Rattle.std.proofs.Common.{◌≡◌, ℕ, ◌<◌, ◌==◌, ◌||◌, Bool, true, false, if◌then◌else◌, List, [], ◌∷◌, ◌++◌, length, refl, sym, ap, ◌∙◌, subst, arith}
use Rattle.std.proofs.lemmas.Bool.{false≢true}
use Rattle.std.specs.List.{AllByRecursion}
use Rattle.mapping_body.specs.Names.{before_name, dot, has_dot, joined, names_of}
use Rattle.mapping_body.proofs.Walks.{split}

-- the names of what stands behind a dot, which are one or more
abbrev pub names_behind : List ℕ → List (List ℕ)
names_behind [] = [] ∷ []
names_behind (byte ∷ path) = names_of (byte ∷ path)

pub names_step : (byte : ℕ) (path : List ℕ) → names_behind (byte ∷ path) ≡ (if byte == dot then [] ∷ names_behind path else before_name byte (names_behind path))
names_step byte [] = refl
names_step byte (next ∷ path) = refl

-- one name or more
pub record HasFirst (names : List (List ℕ)) : Type 0 where
  pub first : List ℕ
  pub rest : List (List ℕ)
  pub is : names ≡ first ∷ rest

begun : (byte : ℕ) (names : List (List ℕ)) → HasFirst names → HasFirst (before_name byte names)
begun byte names has = record { first = byte ∷ has.first; rest = has.rest; is = ap (before_name byte) has.is }

pub first_behind : (path : List ℕ) → HasFirst (names_behind path)
first_behind [] = record { first = []; rest = []; is = refl }
first_behind (byte ∷ path) =
    subst HasFirst (sym (names_step byte path))
    (split (byte == dot)
    (λ yes. rw yes (record { first = []; rest = names_behind path; is = refl }))
    (λ no. rw no (begun byte (names_behind path) (first_behind path))))

before_append : (byte : ℕ) (names more : List (List ℕ)) → HasFirst names → before_name byte (names ++ more) ≡ before_name byte names ++ more
before_append byte [] more has = absurd (let never : [] ≡ has.first ∷ has.rest = has.is in cc)
before_append byte (name ∷ names) more has = refl

-- the names in front of a dot, then those behind it
pub names_parts : (path rest : List ℕ) → names_behind (path ++ dot ∷ rest) ≡ names_behind path ++ names_behind rest
names_parts [] rest = names_step dot rest
names_parts (byte ∷ path) rest =
    names_step byte (path ++ dot ∷ rest)
    ∙ split (byte == dot)
    (λ yes. rw (names_step byte path, yes) (ap (λ (names : List (List ℕ)). [] ∷ names) (names_parts path rest)))
    (λ no. rw (names_step byte path, no) (ap (before_name byte) (names_parts path rest) ∙ before_append byte (names_behind path) (names_behind rest) (first_behind path)))

neither : (s t : Bool) → (s || t) ≡ false → (s ≡ false) × (t ≡ false)
neither true t e = absurd (false≢true (sym e))
neither false t e = (refl, e)

-- bytes without a dot are one name
pub name_alone : (name : List ℕ) → has_dot name ≡ false → names_behind name ≡ name ∷ []
name_alone [] plain = refl
name_alone (byte ∷ name) plain =
    let parts = neither (byte == dot) (has_dot name) plain in
    names_step byte name ∙ rw parts.0 (ap (before_name byte) (name_alone name parts.1))

-- ---- each with a byte

abbrev pub HaveBytes : List (List ℕ) → Type 0
HaveBytes names = AllByRecursion (λ (name : List ℕ). 0 < length name) names

have_append : (names more : List (List ℕ)) → HaveBytes names → HaveBytes more → HaveBytes (names ++ more)
have_append [] more one two = two
have_append (name ∷ names) more one two = (one.0, have_append names more one.1 two)

pub have_later : (names more : List (List ℕ)) → HaveBytes (names ++ more) → HaveBytes more
have_later [] more all = all
have_later (name ∷ names) more all = have_later names more all.1

names_some : (name : List ℕ) → 0 < length name → names_of name ≡ names_behind name
names_some [] some = absurd (omega arith)
names_some (byte ∷ name) some = refl

pub have_joined : (path name : List ℕ) → HaveBytes (names_of path) → has_dot name ≡ false → 0 < length name → HaveBytes (names_of (joined path name))
have_joined [] name have plain some = rw (names_some name some, name_alone name plain) (some, tt)
have_joined (byte ∷ path) name have plain some =
    rw (names_parts (byte ∷ path) name, name_alone name plain) (have_append (names_behind (byte ∷ path)) (name ∷ []) have (some, tt))
