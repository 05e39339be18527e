use Rattle.std.proofs.Common.{◌≡◌, ◌∙◌, ◌++◌, ℕ, List, set, drop, refl, sym, ap, subst}
use Rattle.std.proofs.lemmas.Bool.{false≢true}
use Rattle.segment_parts.specs.Text.{magic}
use Rattle.segment.specs.Renewals.{IsRenewal}
use Rattle.segment.proofs.Renewal.{BeginsOld, begins_new, same_columns, no_columns, no_begin}
use Rattle.segment.proofs.old.renewed.Goals as goal

pub returns-then-not-begins_old-clause-none : goal.returns-then-not-begins_old-clause-none
returns-then-not-begins_old-clause-none c = λ _.
    let came : c.as_slice.result.now ≡ c.args.bytes = c.as_slice.ensures.value ∙ c.into_vec-own.ensures in
    no_begin c.args.bytes (λ begins. false≢true (sym c.if-not-begins_old.true ∙ c.begins_old.ensures.1 (subst BeginsOld (sym came) begins)))

pub returns-in-Some-clause-same : goal.returns-in-Some-clause-same
returns-in-Some-clause-same c =
    let came : c.as_slice.result.now ≡ c.args.bytes = c.as_slice.ensures.value ∙ c.into_vec-own.ensures in
    let begins : BeginsOld c.args.bytes = subst BeginsOld came (c.begins_old.ensures.0 c.if-not-begins_old.false) in
    let own = c.as_slice-2.result.now in
    let own_is : own ≡ magic ++ drop 4 c.args.bytes = begins_new c.args.bytes own begins (c.as_slice-2.ensures.value ∙ ap (λ (bs : List ℕ). set bs 3 50) c.into_vec-own.ensures) in
    let renewal = rw c.in-Some.is at c.in_ok-new.ensures.renewal in
    let it : IsRenewal own c.of.result = subst (λ (new : List ℕ). IsRenewal own new) (sym c.of.ensures) renewal in
    same_columns c.words_are_of_one_set.ensures c.old_roots_have_one_text.ensures c.args.bytes own c.of.result begins own_is it

pub returns-clause-none : goal.returns-clause-none
returns-clause-none c = λ _.
    let came : c.as_slice.result.now ≡ c.args.bytes = c.as_slice.ensures.value ∙ c.into_vec-own.ensures in
    let begins : BeginsOld c.args.bytes = subst BeginsOld came (c.begins_old.ensures.0 c.if-not-begins_old.false) in
    let own = c.as_slice-2.result.now in
    let own_is : own ≡ magic ++ drop 4 c.args.bytes = begins_new c.args.bytes own begins (c.as_slice-2.ensures.value ∙ ap (λ (bs : List ℕ). set bs 3 50) c.into_vec-own.ensures) in
    let never = rw c.in-None.is at c.in_ok-new.ensures.none in
    no_columns c.args.bytes own own_is (never refl)
