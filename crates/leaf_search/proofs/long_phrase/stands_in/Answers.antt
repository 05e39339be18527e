use Rattle.std.proofs.Common.{◌≡◌, ℕ, List, length, All, sym, ap, subst, ◌∙◌, arith}
use Rattle.std.proofs.lemmas.List.{length-map}
use Rattle.postings.specs.Postings.{Standing}
use Rattle.leaf_search.specs.Cursors.{IsOn, lists_in}
use Rattle.leaf_search.specs.Words.{lists_at, phrase_posted}
use Rattle.leaf_search.proofs.Picking.{phrase_found}
use Rattle.leaf_search.proofs.long_phrase.stands_in.Goals as goal

pub returns-clause-says : goal.returns-clause-says
returns-clause-says c =
    let cursors : List Standing = c.as_slice-2.result.now in
    let postings_in : Standing → List (ℕ × List ℕ) = λ cursor. cursor.postings in
    let on : All (IsOn c.args.doc) cursors = subst (All (IsOn c.args.doc)) (sym c.as_slice-2.ensures.value) (c.go_to.ensures.there c.if-not-go_to.false) in
    let lists : lists_in cursors ≡ lists_in c.args.cursors.now.items = ap (λ (l : List Standing). lists_in l) c.as_slice-2.ensures.value ∙ c.go_to.ensures.lists in
    let long : length cursors ≡ length c.args.cursors.now.items = sym (length-map cursors postings_in) ∙ ap length lists ∙ length-map c.args.cursors.now.items postings_in in
    phrase_found cursors c.args.words.now c.args.doc on (λ k d inside. omega (arith, c.requires.words k d inside, long)) c.has_run.result c.requires.some c.has_run.ensures.found c.has_run.ensures.none
    ∙ ap (λ (l : List (List (ℕ × List ℕ))). phrase_posted (lists_at l c.args.words.now) c.args.doc) lists
