-- A clause on a call that failed.
use Rattle.std.proofs.Common.{Result, Ok, Err, OnErr}

pub on_err : {T E P : Type 0} (result : Result T E) → P → OnErr result P
on_err (Ok it) p = tt
on_err (Err it) p = p
