-- A page that is too large was refused as such.
use Rattle.std.proofs.Common.{◌≡◌, Result, Err, IsErrAnd, IsErrOf, refl, ap, ◌∙◌}
use Rattle.inner_hits.proofs.Refusals.{error_of, same_refusal}
use Rattle.inner_hits.specs.declared.page_refusal.PageRefusal.{PageRefusal}
use Rattle.inner_hits.specs.declared.page_refusal.PageRefusal.TheVariants as refused
use Rattle.search_page.specs.Hits.{refusal_of}
use Rattle.search_page.specs.declared.found_refusal.FoundRefusal.{FoundRefusal}
use Rattle.search_page.specs.declared.found_refusal.FoundRefusal.TheVariants.{TooLarge}

large_before : (given : PageRefusal) → refusal_of given ≡ TooLarge → given ≡ refused.TooLarge
large_before refused.TooLarge is = refl
large_before refused.NoMemory is = absurd (cc)

pub was_too_large : {T U : Type 0} (given : PageRefusal) (result : Result U FoundRefusal) → IsErrAnd result (λ (e : FoundRefusal). e ≡ refusal_of given) → IsErrOf result TooLarge → IsErrOf {T = T} {E = PageRefusal} (Err given) refused.TooLarge
was_too_large {T} {U} given result is large = ap Err (large_before given (ap (error_of (refusal_of given)) (same_refusal {T = T} result is large)))
