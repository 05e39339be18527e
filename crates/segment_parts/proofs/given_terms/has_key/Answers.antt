use Rattle.std.proofs.Common.{rules, w64, FitsSigned, int_cmp, IsTrue, refl, sym, subst}
use Rattle.std.specs.List.Sorted.{IsBinarySearchResult}
use Rattle.std.proofs.lemmas.Bool.{false≢true}
use Rattle.std.proofs.lemmas.Int.{to_z-of_z}
use Rattle.segment_parts.specs.NumberKeys.{contains-key, contains-no_key}
use Rattle.segment_parts.proofs.Numbered.{searched_number}
use Rattle.segment_parts.proofs.given_terms.has_key.Goals as goal

pub returns-in-Some : goal.returns-in-Some
returns-in-Some c =
    let numbers = c.args.numbers.now in
    let number = c.in-Some.number in
    let fits : FitsSigned w64 number = search rules in
    let keyed = contains-key numbers number c.args.key.now c.in-Some.ensures.some fits (λ k inside. c.requires.fit k number inside) in
    let searched : IsBinarySearchResult (λ y. int_cmp y number) numbers c.binary_search.result =
    subst (λ z. IsBinarySearchResult (λ y. int_cmp y z) numbers c.binary_search.result) (to_z-of_z w64 number fits) c.binary_search.ensures.position in
    let found = searched_number numbers number c.binary_search.result c.requires.ascending c.binary_search.ensures.bound searched in
    (λ yes. keyed.0 (found.0 (subst IsTrue c.is_ok.ensures.value yes)), λ there. subst IsTrue (sym c.is_ok.ensures.value) (found.1 (keyed.1 there)))

pub returns-in-None : goal.returns-in-None
returns-in-None c =
    (λ no. absurd (false≢true no), λ there. absurd (contains-no_key c.args.numbers.now c.args.key.now (c.in-None.ensures.none.0 refl) there))
