-- Laws of time: how a run of calls on a disk goes on. They serve proofs.
use Rattle.std.proofs.Common.{ℕ, List, inl, inr, ⊎_elim, arith}
use Rattle.disk.specs.Stops.{Within, Passes}

-- one run of calls behind another
pub passes_on : {start mid end : ℕ} {past now since : ℕ → List ℕ → Type 0} {P Q R : List ℕ → Type 0}
    → Passes start mid past now P → Passes mid end now since Q → Within P R → Within Q R → Passes start end past since R
passes_on first then one other = record {
  later = omega (arith, first.later, then.later);
  only = λ moment image before left.
      ⊎_elim
      (λ was. ⊎_elim (λ it. inl it) (λ is. inr (one image is)) (first.only moment image before was))
      (λ is. inr (other image is))
      (then.only moment image (omega (arith, before, first.later)) left);
}

-- the same, where less is asked
pub passes_with : {start end : ℕ} {past since : ℕ → List ℕ → Type 0} {P R : List ℕ → Type 0}
    → Passes start end past since P → Within P R → Passes start end past since R
passes_with run one = record {
  later = run.later;
  only = λ moment image before left. ⊎_elim (λ it. inl it) (λ is. inr (one image is)) (run.only moment image before left);
}

-- before the first call
pub passes_none : (moment : ℕ) (since : ℕ → List ℕ → Type 0) (P : List ℕ → Type 0) → Passes moment moment since since P
passes_none moment since P = record { later = omega arith; only = λ it image before left. inl left }
