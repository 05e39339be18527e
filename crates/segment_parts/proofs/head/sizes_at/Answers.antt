use Rattle.std.proofs.Common.{refl, arith}
use Rattle.segment_parts.specs.Heads.{sizes_count, sizes_both}
use Rattle.segment_parts.proofs.head.sizes_at.Goals as goal

pub returns-in_err-count-clause-nowhere : goal.returns-in_err-count-clause-nowhere
returns-in_err-count-clause-nowhere c = λ _ sizes rest are parts.
    let own = sizes_count c.args.bytes.now c.split_at.result.1.now c.in_ok-documents.documents c.in_ok-documents.rest.now sizes rest c.split_at.ensures.back c.in_ok-documents.ensures.taken are parts in
    c.in_err-count.ensures.nowhere refl sizes.1 rest are.fewer own.1

pub returns-then-documents-eq0-clause-nowhere : goal.returns-then-documents-eq0-clause-nowhere
returns-then-documents-eq0-clause-nowhere c = λ _ sizes rest are parts.
    let own = sizes_count c.args.bytes.now c.split_at.result.1.now c.in_ok-documents.documents c.in_ok-documents.rest.now sizes rest c.split_at.ensures.back c.in_ok-documents.ensures.taken are parts in
    omega (arith, own.0, c.if-documents-eq0.true, are.some_documents)

pub returns-then-count-eq0-clause-nowhere : goal.returns-then-count-eq0-clause-nowhere
returns-then-count-eq0-clause-nowhere c = λ _ sizes rest are parts.
    let own = sizes_both c.args.bytes.now c.split_at.result.1.now c.in_ok-documents.documents c.in_ok-documents.rest.now c.in_ok-count.count c.in_ok-count.rest.now sizes rest c.split_at.ensures.back c.in_ok-documents.ensures.taken c.in_ok-count.ensures.taken are parts in
    omega (arith, own, c.if-count-eq0.true, are.some)
