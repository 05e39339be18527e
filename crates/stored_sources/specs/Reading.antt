-- Reading roots from left to right, and the laws that this undoes their text.
use Rattle.std.proofs.Common.{◌≡◌, ℕ, zero, suc, ◌<◌, ◌^◌, List, [], ◌∷◌, ◌++◌, length, Option, Some, None, refl, sym, ap, subst, ◌∙◌, append_assoc}
use Rattle.std.specs.List.{All}
use Rattle.std.proofs.lemmas.List.Elements.{All-nil, All-cons, All-head, All-tail}
use Rattle.part_text.specs.Text.{u32_text, u64_text, string_text}
use Rattle.part_text.specs.Reading.{◌>>=◌, Reader, u32_at, u64_at, string_at, both_at, made_at, many_at}
use Rattle.part_text.specs.Reads.{Reads, Follow, IsBytes, IsBytes-drop, IsBytes-rest, both_text, bind_some, u32_reads, u64_reads, string_reads, both_reads, made_reads, reads_as, many_take, many_again}
use Rattle.stored_sources.specs.declared.root.Join.{Join}
use Rattle.stored_sources.specs.declared.root.Join.TheVariants.{Unjoined, Named, Child}
use Rattle.stored_sources.specs.declared.root.Root.{Root}
use Rattle.stored_sources.specs.Text.{join_text, root_text, roots_text}
use Rattle.stored_sources.specs.Stands.{IsJoin, IsRoot}

-- ---- readers

abbrev pub named_at : Reader Join
named_at bytes = do
  relation ← u32_at bytes
  Some (Named relation.0, relation.1)

abbrev pub child_at : Reader Join
child_at bytes = do
  relation ← u32_at bytes
  parent ← string_at relation.1
  Some (Child relation.0 parent.0, parent.1)

-- what a join value of this kind goes on with
abbrev pub join_of : ℕ → Reader Join
join_of zero bytes = Some (Unjoined, bytes)
join_of (suc zero) bytes = named_at bytes
join_of (suc (suc zero)) bytes = child_at bytes
join_of (suc (suc (suc kind))) bytes = None

unfoldable pub join_at : Reader Join
join_at [] = None
join_at (kind ∷ bytes) = join_of kind bytes

abbrev pub Parts : Type 0
Parts = List ℕ × (ℕ × (ℕ × (List ℕ × Join)))

abbrev pub root_from : Parts → Root
root_from parts = record { id = parts.0; number = parts.1.0; generation = parts.1.1.0; source = parts.1.1.1.0; join = parts.1.1.1.1 }

abbrev pub parts_of : Root → Parts
parts_of root = (root.id, (root.number, (root.generation, (root.source, root.join))))

unfoldable pub root_at : Reader Root
root_at = made_at root_from (both_at (λ (_ : Unit {0}). string_at) (both_at (λ (_ : Unit {0}). u64_at) (both_at (λ (_ : Unit {0}). u32_at) (both_at (λ (_ : Unit {0}). string_at) join_at tt) tt) tt)) tt

-- the id, the number and the mapping generation of the root at the front of bytes
unfoldable pub front_at : List ℕ → Option (List ℕ × (ℕ × ℕ))
front_at bytes = do
  id ← string_at bytes
  number ← u64_at id.1
  generation ← u32_at number.1
  Some (id.0, (number.0, generation.0))

-- so many roots, one behind the other
unfoldable pub roots_at : ℕ → Reader (List Root)
roots_at count = many_at (λ _. tt {0}) (λ _. root_at) None count

-- ---- laws

some_is : {A : Type 0} (x y : A) → ◌≡◌ {A = Option A} (Some x) (Some y) → x ≡ y
some_is x y e = cc

join_takes : (bytes : List ℕ) (join : Join) (rest : List ℕ) → IsBytes bytes → join_at bytes ≡ Some (join, rest) → IsJoin join × (bytes ≡ join_text join ++ rest)
unfolding join_at
join_takes [] join rest fits e = absurd (cc)
join_takes (zero ∷ bytes) join rest fits e =
    let same : (Unjoined, bytes) ≡ (join, rest) = some_is (Unjoined, bytes) (join, rest) e in
    subst (λ (p : Join × List ℕ). IsJoin p.0 × ((zero ∷ bytes) ≡ join_text p.0 ++ p.1)) same (tt, refl)
join_takes (suc zero ∷ bytes) join rest fits e =
    let a = bind_some (u32_at bytes) (λ (relation : ℕ × List ℕ). Some (Named relation.0, relation.1)) (join, rest) e in
    let t = (u32_reads {B = Unit {0}}).takes tt bytes a.0.0 a.0.1 (IsBytes-drop 1 (suc zero ∷ bytes) fits) a.1 in
    let same = some_is (Named a.0.0, a.0.1) (join, rest) a.2 in
    subst (λ (p : Join × List ℕ). IsJoin p.0 × ((suc zero ∷ bytes) ≡ join_text p.0 ++ p.1)) same (t.0, ap (λ more. suc zero ∷ more) t.1)
join_takes (suc (suc zero) ∷ bytes) join rest fits e =
    let a = bind_some (u32_at bytes) (λ (relation : ℕ × List ℕ). string_at relation.1 >>= λ (parent : List ℕ × List ℕ). Some (Child relation.0 parent.0, parent.1)) (join, rest) e in
    let b = bind_some (string_at a.0.1) (λ (parent : List ℕ × List ℕ). Some (Child a.0.0 parent.0, parent.1)) (join, rest) a.2 in
    let bytes_fit = IsBytes-drop 1 (suc (suc zero) ∷ bytes) fits in
    let t = (u32_reads {B = Unit {0}}).takes tt bytes a.0.0 a.0.1 bytes_fit a.1 in
    let u = (string_reads {B = Unit {0}}).takes tt a.0.1 b.0.0 b.0.1 (IsBytes-rest bytes (u32_text a.0.0) a.0.1 bytes_fit t.1) b.1 in
    let same = some_is (Child a.0.0 b.0.0, b.0.1) (join, rest) b.2 in
    let parts : bytes ≡ (u32_text a.0.0 ++ string_text b.0.0) ++ b.0.1 = t.1 ∙ ap (λ more. u32_text a.0.0 ++ more) u.1 ∙ sym (append_assoc (u32_text a.0.0) (string_text b.0.0) b.0.1) in
    subst (λ (p : Join × List ℕ). IsJoin p.0 × ((suc (suc zero) ∷ bytes) ≡ join_text p.0 ++ p.1)) same ((t.0, u.0), ap (λ more. suc (suc zero) ∷ more) parts)
join_takes (suc (suc (suc kind)) ∷ bytes) join rest fits e = absurd (cc)

join_again : (join : Join) (rest : List ℕ) → IsJoin join → join_at (join_text join ++ rest) ≡ Some (join, rest)
unfolding join_at
join_again Unjoined rest is = refl
join_again (Named relation) rest is = rw ((u32_reads {B = Unit {0}}).again tt relation rest is) refl
join_again (Child relation parent) rest is =
    rw (append_assoc (u32_text relation) (string_text parent) rest, (u32_reads {B = Unit {0}}).again tt relation (string_text parent ++ rest) is.0, (string_reads {B = Unit {0}}).again tt parent rest is.1) refl

pub join_reads : {B : Type 0} → Reads {B = B} join_text (λ _ join. IsJoin join) (λ _. join_at)
join_reads = record { takes = λ before bytes join rest fits e. join_takes bytes join rest fits e; again = λ before join rest is. join_again join rest is }

abbrev ArePartsOf : Parts → Type 0
ArePartsOf parts = (length parts.0 < 2 ^ 32) × ((parts.1.0 < 2 ^ 64) × ((parts.1.1.0 < 2 ^ 32) × ((length parts.1.1.1.0 < 2 ^ 32) × IsJoin parts.1.1.1.1)))

pub root_reads : {B : Type 0} → Reads {B = B} root_text (λ _ root. IsRoot root) (λ _. root_at)
unfolding root_at
root_reads {B} =
    let SourceText : List ℕ × Join → List ℕ = both_text string_text join_text in
    let May4 : List ℕ × Join → Type 0 = λ p. (length p.0 < 2 ^ 32) × IsJoin p.1 in
    let at4 : Reader (List ℕ × Join) = both_at (λ (_ : Unit {0}). string_at) join_at tt in
    let law4 : Reads {B = B} SourceText (λ _ p. May4 p) (λ _. at4) = both_reads {B = B} string_text join_text (λ _ text. length text < 2 ^ 32) (λ _ join. IsJoin join) (λ _. string_at) join_at string_reads join_reads in
    let Text3 : ℕ × (List ℕ × Join) → List ℕ = both_text u32_text SourceText in
    let May3 : ℕ × (List ℕ × Join) → Type 0 = λ p. (p.0 < 2 ^ 32) × May4 p.1 in
    let at3 : Reader (ℕ × (List ℕ × Join)) = both_at (λ (_ : Unit {0}). u32_at) at4 tt in
    let law3 : Reads {B = B} Text3 (λ _ p. May3 p) (λ _. at3) = both_reads {B = B} u32_text SourceText (λ _ n. n < 2 ^ 32) (λ _ p. May4 p) (λ _. u32_at) at4 u32_reads law4 in
    let Text2 : ℕ × (ℕ × (List ℕ × Join)) → List ℕ = both_text u64_text Text3 in
    let May2 : ℕ × (ℕ × (List ℕ × Join)) → Type 0 = λ p. (p.0 < 2 ^ 64) × May3 p.1 in
    let at2 : Reader (ℕ × (ℕ × (List ℕ × Join))) = both_at (λ (_ : Unit {0}). u64_at) at3 tt in
    let law2 : Reads {B = B} Text2 (λ _ p. May2 p) (λ _. at2) = both_reads {B = B} u64_text Text3 (λ _ n. n < 2 ^ 64) (λ _ p. May3 p) (λ _. u64_at) at3 u64_reads law3 in
    let Text1 : Parts → List ℕ = both_text string_text Text2 in
    let at1 : Unit {0} → Reader Parts = both_at (λ (_ : Unit {0}). string_at) at2 in
    let law1 : Reads {B = B} Text1 (λ _ parts. ArePartsOf parts) (λ _. at1 tt) = both_reads {B = B} string_text Text2 (λ _ text. length text < 2 ^ 32) (λ _ p. May2 p) (λ _. string_at) at2 string_reads law2 in
    let made : Reads {B = B} (λ root. Text1 (parts_of root)) (λ _ root. ArePartsOf (parts_of root)) (λ _. root_at) = made_reads {B = B} root_from parts_of Text1 (λ _ parts. ArePartsOf parts) (λ _. at1 tt) law1 (λ parts. refl) (λ root. refl) in
    reads_as root_text (λ _ root. ArePartsOf (parts_of root)) (λ _ root. IsRoot root) (λ _. root_at) made
    (λ _ root may. record { id = may.0; number = may.1.0; generation = may.1.1.0; source = may.1.1.1.0; join = may.1.1.1.1 })
    (λ _ root is. (is.id, (is.number, (is.generation, (is.source, is.join)))))

-- ---- lists of roots

abbrev pub MayRoot : Option (Unit {0}) → Root → Type 0
MayRoot before root = IsRoot root

each_from : (before : Option (Unit {0})) (roots : List Root) → Follow (λ _. tt {0}) MayRoot before roots → All IsRoot roots
each_from before [] follow = All-nil IsRoot
each_from before (root ∷ roots) follow = All-cons IsRoot root roots follow.0 (each_from (Some tt) roots follow.1)

each_to : (before : Option (Unit {0})) (roots : List Root) → All IsRoot roots → Follow (λ _. tt {0}) MayRoot before roots
each_to before [] each = tt
each_to before (root ∷ roots) each = (All-head IsRoot root roots each, each_to (Some tt) roots (All-tail IsRoot root roots each))

pub record AreTaken (count : ℕ) (bytes : List ℕ) (roots : List Root) (rest : List ℕ) : Type 0 where
  pub long : length roots ≡ count
  pub each : All IsRoot roots
  pub parts : bytes ≡ roots_text roots ++ rest

pub roots_take : (count : ℕ) (bytes : List ℕ) (roots : List Root) (rest : List ℕ) → IsBytes bytes → roots_at count bytes ≡ Some (roots, rest) → AreTaken count bytes roots rest
unfolding roots_at
roots_take count bytes roots rest fits e =
    let taken = many_take (λ _. tt {0}) root_text MayRoot (λ _. root_at) root_reads None count bytes roots rest fits e in
    record { long = taken.0; each = each_from None roots taken.1; parts = taken.2 }

pub roots_again : (roots : List Root) (rest : List ℕ) → All IsRoot roots → roots_at (length roots) (roots_text roots ++ rest) ≡ Some (roots, rest)
unfolding roots_at
roots_again roots rest each = many_again (λ _. tt {0}) root_text MayRoot (λ _. root_at) root_reads None roots rest (each_to None roots each)
