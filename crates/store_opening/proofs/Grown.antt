-- How a mapping grows by the values that bodies are texts of.
use Rattle.std.proofs.Common.{◌≡◌, ℕ, ◌+◌, ◌-◌, ◌<◌, ◌≤◌, Bool, false, List, [], ◌∷◌, ◌++◌, length, get_or, take, drop, Option, None, Some, IfSome, IsNone, refl, sym, ◌∙◌, ap, subst, arith, append_assoc, append-nil, length-append, length-drop}
use Rattle.std.specs.List.{AllZip}
use Rattle.std.proofs.lemmas.Bool.{false≢true}
use Rattle.std.proofs.Math.ListN.{drop_of_length-le}
use Rattle.std.proofs.lemmas.List.{drop_more, take_all}
use Rattle.mapping.specs.Mapping.{Mapping, mapping_of}
use Rattle.mapping.specs.Growth.{IsGrown}
use Rattle.mapping.specs.declared.mapping.Growth.{Growth}
use Rattle.mapping.specs.declared.mapping.Growth.TheVariants.{Same}
use Rattle.mapping_growth.specs.Bodies.{AreBodies, AreNext, IsNext, adds, conflict_of}
use Rattle.tree_json.specs.Reading.{Reading, bad_json, fraction, value}
use Rattle.tree_json.specs.Value.{JsonValue}
use Rattle.tree_json.specs.View.{view}
use Rattle.tree_json.specs.declared.value.Json.{Json}
use Rattle.store_opening.specs.Read.{IsTextOf, AreGrown, IsFirst, IsGrownBy, IsMappingOf}

-- ---- one body more

next_last : (before rest : List JsonValue) (v : JsonValue) → AreNext before (rest ++ v ∷ []) → IsNext (before ++ rest) v
next_last before [] v are = subst (λ (bs : List JsonValue). IsNext bs v) (sym (append-nil before)) are.0
next_last before (b ∷ rest) v are =
    subst (λ (bs : List JsonValue). IsNext bs v) (append_assoc before (b ∷ []) rest) (next_last (before ++ b ∷ []) rest v are.1)

-- the last of values that are bodies of a mapping agrees with those before it and adds something
pub last_next : (bs : List JsonValue) (v : JsonValue) → 0 < length bs → AreBodies (bs ++ v ∷ []) → IsNext bs v
last_next [] v some are = absurd (omega (arith, some))
last_next (b ∷ bs) v some are = next_last (b ∷ []) bs v are.next

-- ---- texts

valued : JsonValue → Reading → JsonValue
valued other bad_json = other
valued other fraction = other
valued other (value v) = v

-- bytes are the text of one value at most
pub same_value : (body : List ℕ) (v w : JsonValue) → IsTextOf v body → IsTextOf w body → v ≡ w
unfolding valued
same_value body v w is it = ap (valued v) (sym is.reads ∙ it.reads)

-- ---- refusals

pub value_text : (body : List ℕ) (found : Option Json) (v : Json) → found ≡ Some v → IfSome found (λ it. IsTextOf (view it) body) → IsTextOf (view v) body
value_text body found v is text = subst (λ (it : Option Json). IfSome it (λ x. IsTextOf (view x) body)) is text

pub adds_none : (m : Mapping) (v : JsonValue) (growth : Growth) → growth ≡ Same → IsGrown m v growth → adds m.bodies v ≡ false
adds_none m v growth is grown =
    let same : IsGrown m v Same = subst (λ (it : Growth). IsGrown m v it) is grown in
    same.2

-- a body that adds nothing is none of a mapping
pub not_same : (body : List ℕ) (old new : Mapping) (v : JsonValue) → 0 < length old.bodies → IsTextOf v body → adds old.bodies v ≡ false
    → IsGrownBy body old new → ⊥
not_same body old new v some is none it =
    let next : IsNext old.bodies it.value = last_next old.bodies it.value some it.are in
    false≢true (sym none ∙ (ap (adds old.bodies) (sym (same_value body it.value v it.text is)) ∙ next.adds_more))

-- nor is one with a conflict
pub not_otherwise : (body : List ℕ) (old new : Mapping) (v : JsonValue) (path : List ℕ) → 0 < length old.bodies → IsTextOf v body
    → conflict_of old.bodies v ≡ Some path → IsGrownBy body old new → ⊥
not_otherwise body old new v path some is conflict it =
    let next : IsNext old.bodies it.value = last_next old.bodies it.value some it.are in
    grind (arith, sym conflict ∙ (ap (conflict_of old.bodies) (sym (same_value body it.value v it.text is)) ∙ next.agrees))

pub ruleset refusals = (not_same, not_otherwise)

-- ---- bodies one by one

-- what is left of values that are texts of bodies
pub record Rest (left : List (List ℕ)) (now ws : List JsonValue) : Type 0 where
  pub more : List JsonValue
  pub whole : ws ≡ now ++ more
  pub texts : AllZip IsTextOf more left
  pub grown : AreGrown now more

-- The first bodies are texts of these values: with what is left they are what all are, and nothing else is.
pub record Going (bodies left : List (List ℕ)) (now : List JsonValue) : Type 0 where
  pub forth : (ws : List JsonValue) → AllZip IsTextOf ws left → AreGrown now ws → AllZip IsTextOf (now ++ ws) bodies × AreGrown [] (now ++ ws)
  pub back : (ws : List JsonValue) → AllZip IsTextOf ws bodies → AreGrown [] ws → Rest left now ws

pub going_start : (bodies : List (List ℕ)) → Going bodies bodies []
going_start bodies = record {
  forth = λ ws texts grown. (texts, grown);
  back = λ ws texts grown. record { more = ws; whole = refl; texts = texts; grown = grown };
}

-- of what is left the first value is the text's
first_is : (body : List ℕ) (left : List (List ℕ)) (now ws : List JsonValue) (v : JsonValue) (more : List JsonValue) → IsTextOf v body
    → ws ≡ now ++ more → AllZip IsTextOf more (body ∷ left) → AreGrown now more → Rest left (now ++ v ∷ []) ws
first_is body left now ws v [] is whole texts grown = absurd texts
first_is body left now ws v (w ∷ more) is whole texts grown =
    let same : w ≡ v = same_value body w v texts.0 is in
    record {
      more = more;
      whole = whole ∙ (ap (λ (it : JsonValue). now ++ it ∷ more) same ∙ sym (append_assoc now (v ∷ []) more));
      texts = texts.1;
      grown = subst (λ (it : JsonValue). AreGrown (now ++ it ∷ []) more) same grown.1;
    }

rest_first : (body : List ℕ) (left : List (List ℕ)) (now ws : List JsonValue) (v : JsonValue) → IsTextOf v body → Rest (body ∷ left) now ws
    → Rest left (now ++ v ∷ []) ws
rest_first body left now ws v is rest = first_is body left now ws v rest.more is rest.whole rest.texts rest.grown

pub going_on : (bodies left : List (List ℕ)) (now : List JsonValue) (body : List ℕ) (v : JsonValue) → Going bodies (body ∷ left) now → IsTextOf v body
    → AreBodies (now ++ v ∷ []) → Going bodies left (now ++ v ∷ [])
going_on bodies left now body v going is are = record {
  forth = λ ws texts grown.
      subst (λ (it : List JsonValue). AllZip IsTextOf it bodies × AreGrown [] it) (sym (append_assoc now (v ∷ []) ws))
      (going.forth (v ∷ ws) (is, texts) (are, grown));
  back = λ ws texts grown. rest_first body left now ws v is (going.back ws texts grown);
}

no_first : (left : List (List ℕ)) (now : List JsonValue) (body : List ℕ) (more : List JsonValue)
    → ((v : JsonValue) → IsTextOf v body → AreBodies (now ++ v ∷ []) → ⊥) → AllZip IsTextOf more (body ∷ left) → AreGrown now more → ⊥
no_first left now body [] none texts grown = texts
no_first left now body (v ∷ more) none texts grown = none v texts.0 grown.0

-- where no value stands for the next body there are none for all
pub going_none : (bodies left : List (List ℕ)) (now : List JsonValue) (body : List ℕ) (dynamic : Bool) (m : Mapping) → Going bodies (body ∷ left) now
    → ((v : JsonValue) → IsTextOf v body → AreBodies (now ++ v ∷ []) → ⊥) → IsMappingOf bodies dynamic m → ⊥
going_none bodies left now body dynamic m going none it =
    let rest : Rest (body ∷ left) now it.values = going.back it.values it.texts it.grown in
    no_first left now body rest.more none rest.texts rest.grown

pub going_end : (bodies : List (List ℕ)) (now : List JsonValue) (dynamic : Bool) (m : Mapping) → 0 < length bodies → Going bodies [] now
    → m ≡ mapping_of now dynamic → IsMappingOf bodies dynamic m
going_end bodies now dynamic m some going is =
    let both : AllZip IsTextOf (now ++ []) bodies × AreGrown [] (now ++ []) = going.forth [] tt tt in
    record {
      some = some;
      values = now;
      texts = subst (λ (it : List JsonValue). AllZip IsTextOf it bodies) (append-nil now) both.0;
      grown = subst (λ (it : List JsonValue). AreGrown [] it) (append-nil now) both.1;
      says = is;
    }

-- ---- the mapping so far

-- the bodies up to what is left made this mapping
pub record Grows (bodies left : List (List ℕ)) (m : Mapping) : Type 0 where
  pub all : 0 < length bodies
  pub now : List JsonValue
  pub some : 0 < length now
  pub says : m ≡ mapping_of now false
  pub going : Going bodies left now

pub grows_start : (bodies : List (List ℕ)) (first : List ℕ) (rest : List (List ℕ)) (m : Mapping) → bodies ≡ first ∷ rest → IsFirst first m
    → Grows bodies rest m
grows_start bodies first rest m are is = record {
  all = omega (arith, ap length are);
  now = is.value ∷ [];
  some = omega arith;
  says = is.says;
  going = going_on bodies rest [] first is.value (subst (λ (it : List (List ℕ)). Going bodies it []) are (going_start bodies)) is.text is.are;
}

pub grows_some : (bodies left : List (List ℕ)) (m : Mapping) → Grows bodies left m → 0 < length m.bodies
grows_some bodies left m grows = subst (λ (it : Mapping). 0 < length it.bodies) (sym grows.says) grows.some

next_left : (rest : List (List ℕ)) (index : ℕ) (d body : List ℕ) → index < length rest → body ≡ get_or rest index d
    → drop index rest ≡ body ∷ drop (index + 1) rest
next_left rest index d body inside is = drop_more rest index d inside ∙ ap (λ (it : List ℕ). it ∷ drop (index + 1) rest) (sym is)

pub grows_on : (bodies rest : List (List ℕ)) (index : ℕ) (d body : List ℕ) (m new : Mapping) → index < length rest → body ≡ get_or rest index d
    → Grows bodies (drop index rest) m → IsGrownBy body m new → Grows bodies (drop (index + 1) rest) new
grows_on bodies rest index d body m new inside is grows by =
    let same : m.bodies ≡ grows.now = ap (λ (it : Mapping). it.bodies) grows.says in
    let fixed : m.dynamic ≡ false = ap (λ (it : Mapping). it.dynamic) grows.says in
    record {
      all = grows.all;
      now = grows.now ++ by.value ∷ [];
      some = omega (arith, length-append grows.now (by.value ∷ []));
      says = by.says ∙ (ap (λ (it : List JsonValue). mapping_of (it ++ by.value ∷ []) m.dynamic) same
          ∙ ap (λ (it : Bool). mapping_of (grows.now ++ by.value ∷ []) it) fixed);
      going = going_on bodies (drop (index + 1) rest) grows.now body by.value
          (subst (λ (it : List (List ℕ)). Going bodies it grows.now) (next_left rest index d body inside is) grows.going) by.text
          (subst (λ (it : List JsonValue). AreBodies (it ++ by.value ∷ [])) same by.are);
    }

pub grows_none : (bodies rest : List (List ℕ)) (index : ℕ) (d body : List ℕ) (m it : Mapping) (dynamic : Bool) → index < length rest
    → body ≡ get_or rest index d → Grows bodies (drop index rest) m → ((new : Mapping) → IsGrownBy body m new → ⊥)
    → IsMappingOf bodies dynamic it → ⊥
grows_none bodies rest index d body m it dynamic inside is grows none =
    let same : m.bodies ≡ grows.now = ap (λ (x : Mapping). x.bodies) grows.says in
    going_none bodies (drop (index + 1) rest) grows.now body dynamic it
    (subst (λ (x : List (List ℕ)). Going bodies x grows.now) (next_left rest index d body inside is) grows.going)
    (λ v text are. none (mapping_of (m.bodies ++ v ∷ []) m.dynamic)
    (record { value = v; text = text; are = subst (λ (x : List JsonValue). AreBodies (x ++ v ∷ [])) (sym same) are; says = refl }))

pub first_none : (bodies : List (List ℕ)) (first : List ℕ) (rest : List (List ℕ)) (it : Mapping) (dynamic : Bool) → bodies ≡ first ∷ rest
    → ((new : Mapping) → IsFirst first new → ⊥) → IsMappingOf bodies dynamic it → ⊥
first_none bodies first rest it dynamic are none =
    going_none bodies rest [] first dynamic it (subst (λ (x : List (List ℕ)). Going bodies x []) are (going_start bodies))
    (λ v text good. none (mapping_of (v ∷ []) false) (record { value = v; text = text; are = good; says = refl }))

pub grows_end : (bodies rest : List (List ℕ)) (index : ℕ) (m new : Mapping) (dynamic : Bool) → length rest ≤ index
    → Grows bodies (drop index rest) m → new ≡ mapping_of m.bodies dynamic → IsMappingOf bodies dynamic new
grows_end bodies rest index m new dynamic end grows is =
    going_end bodies grows.now dynamic new grows.all
    (subst (λ (it : List (List ℕ)). Going bodies it grows.now) (drop_of_length-le rest end) grows.going)
    (is ∙ ap (λ (it : Mapping). mapping_of it.bodies dynamic) grows.says)

pub bodies_are : (bodies : List (List ℕ)) (d first : List ℕ) → 1 ≤ length bodies → first ≡ d → d ≡ get_or bodies 0 d
    → bodies ≡ first ∷ take (length bodies - 1) (drop 1 bodies)
bodies_are bodies d first some same is =
    drop_more bodies 0 d (omega (arith, some))
    ∙ (ap (λ (it : List ℕ). it ∷ drop 1 bodies) (sym (same ∙ is))
    ∙ ap (λ (it : List (List ℕ)). first ∷ it) (sym (take_all (length bodies - 1) (drop 1 bodies) (omega (arith, length-drop 1 bodies)))))

pub none_of : {X : Type 0} (found : Option X) → found ≡ None → IsNone found
none_of {X = Y} found is = subst (λ (o : Option Y). IsNone o) (sym is) refl

pub some_of : {X : Type 0} (P : X → Type 0) (found : Option X) (x : X) → found ≡ Some x → IfSome found P → P x
some_of {X = Y} P found x is all = subst (λ (o : Option Y). IfSome o P) is all

pub ruleset grows = (grows_start, grows_some, grows_on, grows_none, first_none, grows_end)
