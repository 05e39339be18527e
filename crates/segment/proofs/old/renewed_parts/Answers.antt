use Rattle.std.proofs.Common.{Bool, List, ap, subst, refl, ◌≡◌, ◌∙◌, arith}
use Rattle.std.specs.List.{count_by}
use Rattle.block_bits.specs.Flags.{is_marked}
use Rattle.segment_parts.specs.Parts.{root_flags}
use Rattle.segment.specs.Renewals.{IsShown}
use Rattle.segment.proofs.Renewal.{no_old_head, no_shown, no_roots}
use Rattle.segment.proofs.old.renewed_parts.Goals as goal

pub returns-in_default-clause-none : goal.returns-in_default-clause-none
returns-in_default-clause-none c = λ _.
    let never = rw c.in_default.is at c.in_ok-documents.ensures.nowhere in
    no_old_head c.args.bytes.now (never refl)

pub returns-then-count-eq0-clause-none : goal.returns-then-count-eq0-clause-none
returns-then-count-eq0-clause-none c = λ _.
    let head = rw c.in-Some.is at c.in_ok-documents.ensures.taken in
    let shown : IsShown c.in-Some.scopes c.shown_scopes-count.result = subst (λ (sets : List (List Bool)). IsShown sets c.shown_scopes-count.result) c.as_slice-sets.ensures c.shown_scopes-count.ensures in
    no_shown c.words_are_of_one_set.ensures c.args.bytes.now c.in-Some.documents c.in-Some.scopes c.in-Some.behind.now c.shown_scopes-count.result head.0 head.1 shown (omega (arith, c.if-count-eq0.true))

pub returns-in_default-2-clause-none : goal.returns-in_default-2-clause-none
returns-in_default-2-clause-none c = λ _.
    let head = rw c.in-Some.is at c.in_ok-documents.ensures.taken in
    let never = rw c.in_default-2.is at c.in_ok-rest.ensures.nowhere in
    let counted : c.count_roots.result ≡ count_by is_marked (root_flags c.in-Some.scopes) = c.count_roots.ensures ∙ ap (λ (sets : List (List Bool)). count_by is_marked (root_flags sets)) c.as_slice-sets.ensures in
    no_roots c.words_are_of_one_set.ensures c.args.bytes.now c.in-Some.documents c.in-Some.scopes c.in-Some.behind.now c.count_roots.result head.0 head.1 counted (never refl)
