-- The first of a list of refusals.
use Rattle.std.proofs.Common.{◌≡◌, ◌≤◌, ◌<◌, ℕ, nat_lt, length, List, [], ◌∷◌, true, false, Option, Some, None, Result, Ok, Err, refl, sym, ap, subst, ◌∙◌, arith}
use Rattle.std.proofs.lemmas.Bool.{and_parts}
use Rattle.std.proofs.lemmas.Bool.Decides.{nat_tests}
use Rattle.std.specs.List.{list_all}
use Rattle.mapping_body.specs.Body.{is_body}
use Rattle.mapping_growth.specs.Bodies.{AreBodies, exceeded}
use Rattle.mapping.specs.Mapping.{Mapping}
use Rattle.reply_text.specs.declared.refusal.Refusal.{Refusal}
use Rattle.reply_text.specs.declared.refusal.Refusal.TheVariants.{SourceTooLong}
use Rattle.flattener.specs.Fits.{most_source}
use Rattle.tree_json.specs.Text.{compact}
use Rattle.tree_json.specs.Value.{JsonValue}
use Rattle.tree_objects.specs.Tree.{Tree}
use Rattle.machine.specs.Answer.{first_of}
use Rattle.machine.specs.MappingLine.{first_refusals}
use Rattle.machine.specs.Write.{grown_by, growth_refusal, new_tree, source_refusal, source_refusals}

pub first_some : (o : Option Refusal) (later : List (Option Refusal)) (why : Refusal) → o ≡ Some why → first_of (o ∷ later) ≡ Some why
first_some o later why e = rw e refl

pub first_none : (o : Option Refusal) (later : List (Option Refusal)) → o ≡ None → first_of (o ∷ later) ≡ first_of later
first_none o later e = rw e refl

-- the bodies of a mapping have their form, and exceed no limit
pub first_accepted : (m : Mapping) (body : JsonValue) → m.bodies ≡ body ∷ [] → AreBodies m.bodies → first_of (first_refusals body) ≡ None
first_accepted m body is all =
    let forms : list_all is_body (body ∷ []) ≡ true = subst (λ bodies. list_all is_body bodies ≡ true) is all.forms in
    let limits : exceeded (body ∷ []) ≡ None = subst (λ bodies. exceeded bodies ≡ None) is all.limits in
    rw ((and_parts (is_body body) true forms).0, limits) refl

-- a source that is too long is refused for that
pub long_refused : (m : Mapping) (body : Option JsonValue) (tree : Tree) → most_source < length (compact tree.source) → first_of (source_refusals m body tree) ≡ Some SourceTooLong
long_refused m body tree long = let test : nat_lt most_source (length (compact tree.source)) ≡ true = grind (arith, nat_tests) in rw test refl

-- a source that is short enough and whose growth is taken has no other refusal than its own
pub source_refused : (m m2 : Mapping) (body : Option JsonValue) (id : List ℕ) (source : JsonValue) (number : ℕ) (why : Refusal) → length (compact source) ≤ most_source → growth_refusal m body ≡ None
    → m2 ≡ grown_by m body → source_refusal m2 (new_tree id source m2 number) ≡ Some why → first_of (source_refusals m body (new_tree id source (grown_by m body) number)) ≡ Some why
source_refused m m2 body id source number why short growth is refused =
    let test : nat_lt most_source (length (compact source)) ≡ false = grind (arith, nat_tests) in
    let last : source_refusal (grown_by m body) (new_tree id source (grown_by m body) number) ≡ Some why =
    subst (λ (it : Mapping). source_refusal it (new_tree id source it number) ≡ Some why) is refused in
    rw (test, growth, last) refl

pub ruleset firsts = (first_some, first_none, long_refused)

-- a result has one error
err_given : {T E : Type 0} → E → Result T E → E
err_given {T} {E} other (Ok it) = other
err_given {T} {E} other (Err e) = e

pub err_in : {T E : Type 0} (result : Result T E) (one two : E) → result ≡ Err one → result ≡ Err two → one ≡ two
unfolding err_given
err_in {T} {E} result one two first second = ap (err_given one) (sym first ∙ second)
