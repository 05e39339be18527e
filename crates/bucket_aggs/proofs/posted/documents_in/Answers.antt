use Rattle.std.proofs.Common.{◌≡◌, ◌+◌, ℕ, Bool, true, false, cond, List, None, Some, length, drop, get_or, count_by, sym, ap, ◌∙◌, arith}
use Rattle.postings.specs.Postings.{present_document}
use Rattle.bucket_aggs.specs.Counts.{is_posted}
use Rattle.bucket_aggs.proofs.Listed.{Postings, present_end, present_step}
use Rattle.bucket_aggs.proofs.posted.documents_in.Goals.{then-is_in, else-is_in}
use Rattle.bucket_aggs.proofs.posted.documents_in.Goals as goal

pub postings-preserved : goal.postings-preserved
postings-preserved c =
    let flags : List Bool = c.args.set.now in
    let ps : Postings = c.args.cursor.postings in
    let at : ℕ = c.postings.cursor.at in
    let doc : ℕ = c.in-Some.doc in
    let same = c.postings.invariant.0 in
    let here : Some doc ≡ present_document (record { postings = ps; at = at }) = sym c.in-Some.is ∙ c.doc.ensures.document ∙ ap (λ (l : Postings). present_document (record { postings = l; at = at })) same in
    let step = present_step flags ps at doc here in
    let moved : c.next.new.self.at ≡ at + 1 = omega (arith, c.next.ensures.place, step.0, ap (λ (l : Postings). length l) same) in
    let rest : count_by (is_posted flags) (drop c.next.new.self.at ps) ≡ count_by (is_posted flags) (drop (at + 1) ps) = ap (λ (k : ℕ). count_by (is_posted flags) (drop k ps)) moved in
    elim c.if-is_in.branch [
      | then-is_in w ↦
          let held : get_or flags doc false ≡ true = sym c.is_in.ensures ∙ w.if-is_in.true in (
            c.next.ensures.postings ∙ same,
            omega (arith, w.count-is, c.postings.invariant.1, moved),
            omega (arith, w.count-is, c.postings.invariant.2, step.1, rest, ap (λ (b : Bool). cond {A = ℕ} b 1 0) held),
          )
      | else-is_in w ↦
          let failed : get_or flags doc false ≡ false = sym c.is_in.ensures ∙ w.if-is_in.false in (
            c.next.ensures.postings ∙ same,
            omega (arith, w.count-is, c.postings.invariant.1, moved),
            omega (arith, w.count-is, c.postings.invariant.2, step.1, rest, ap (λ (b : Bool). cond {A = ℕ} b 1 0) failed),
          )
    ]

pub returns-clause-count : goal.returns-clause-count
returns-clause-count c =
    let ended : None ≡ present_document (record { postings = c.args.cursor.postings; at = c.postings.cursor.at }) =
    sym c.in_default.is ∙ c.doc.ensures.document ∙ ap (λ (l : Postings). present_document (record { postings = l; at = c.postings.cursor.at })) c.postings.invariant.0 in
    omega (arith, c.postings.invariant.2, present_end c.args.set.now c.args.cursor.postings c.postings.cursor.at ended)
