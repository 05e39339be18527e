-- A refusal that is handed on stays what it was.
use Rattle.std.proofs.Common.{◌≡◌, Result, Ok, Err, IsErrAnd, IsErrOf, ap, sym, ◌∙◌}
use Rattle.std.proofs.lemmas.Result.{err_from_is_err_and}

abbrev pub error_of : {T E : Type 0} → E → Result T E → E
error_of none (Ok x) = none
error_of none (Err e) = e

pub same_refusal : {T U E : Type 0} {given why : E} (result : Result U E) → IsErrAnd result (λ (e : E). e ≡ given) → IsErrOf result why → IsErrOf {T = T} {E = E} (Err given) why
same_refusal {T} {U} {E} {given} {why} result is why_is =
    let at = err_from_is_err_and result is in
    ap Err (ap (error_of given) (sym (at.1 ∙ ap Err at.2) ∙ why_is))
