use Rattle.std.proofs.Common.{refl, ap, ◌∙◌, List, Bool}
use Rattle.std.specs.List.{count_by}
use Rattle.block_bits.specs.Flags.{is_marked}
use Rattle.segment_parts.specs.Parts.{root_flags}
use Rattle.segment_parts.specs.Whole.{all_read, no_head, no_rows, no_fields}
use Rattle.segment_parts.proofs.parts.Parts.read.Goals as goal

pub returns-in_default-clause-only : goal.returns-in_default-clause-only
returns-in_default-clause-only c = λ _.
    let never = rw (c.in_default.is, c.as_slice.ensures.value) at c.in_ok-documents.ensures.nowhere in
    no_head c.args.bytes.items (never refl)

pub returns-in_default-2-clause-only : goal.returns-in_default-2-clause-only
returns-in_default-2-clause-only c = λ _.
    let head = rw (c.in-Some.is, c.as_slice.ensures.value) at c.in_ok-documents.ensures.taken in
    let never = rw (c.in_default-2.is, c.as_slice-3.ensures.value, c.len.ensures, c.args.bytes.ok.0) at c.in_ok-roots.ensures.nowhere in
    no_rows c.words_are_of_one_set.ensures c.args.bytes.items c.in-Some.documents c.in-Some.scopes c.in-Some.behind.now c.count_roots-count.result head.0 head.1 (c.count_roots-count.ensures ∙ ap (λ (sets : List (List Bool)). count_by is_marked (root_flags sets)) c.as_slice-2.ensures) (never refl)

pub invariant_of-result : goal.invariant_of-result
invariant_of-result c =
    let head = rw (c.in-Some.is, c.as_slice.ensures.value) at c.in_ok-documents.ensures.taken in
    let rows = rw (c.in-Some-2.is, c.as_slice-3.ensures.value, c.len.ensures, c.args.bytes.ok.0) at c.in_ok-roots.ensures.taken in
    let fields = rw (c.in-Some-3.is, c.as_slice-4.ensures.value) at c.in_ok-ordinals.ensures.taken in
    let all = all_read c.args.bytes.items c.in-Some.documents c.in-Some.scopes c.in-Some.behind.now c.count_roots-count.result c.in-Some-2.roots c.in-Some-2.terms c.in-Some-2.at c.in-Some-3.ordinals c.in-Some-3.numbers c.in-Some-3.present head.0 head.1 (c.count_roots-count.ensures ∙ ap (λ (sets : List (List Bool)). count_by is_marked (root_flags sets)) c.as_slice-2.ensures) rows fields in
    record {
      are = all.are;
      text = all.text;
      roots_kept = rows.roots_kept;
      terms_kept = rows.terms_kept;
      skips_kept = rw c.as_slice-in-Some-3.ensures.value at c.in_ok-skips-in-Some-3.ensures;
      ordinals_kept = fields.ordinals_kept;
      numbers_kept = fields.numbers_kept;
    }

pub returns-in_ok-skips-in-Some-3-clause-found : goal.returns-in_ok-skips-in-Some-3-clause-found
returns-in_ok-skips-in-Some-3-clause-found c =
    let head = rw (c.in-Some.is, c.as_slice.ensures.value) at c.in_ok-documents.ensures.taken in
    let rows = rw (c.in-Some-2.is, c.as_slice-3.ensures.value, c.len.ensures, c.args.bytes.ok.0) at c.in_ok-roots.ensures.taken in
    let fields = rw (c.in-Some-3.is, c.as_slice-4.ensures.value) at c.in_ok-ordinals.ensures.taken in
    (all_read c.args.bytes.items c.in-Some.documents c.in-Some.scopes c.in-Some.behind.now c.count_roots-count.result c.in-Some-2.roots c.in-Some-2.terms c.in-Some-2.at c.in-Some-3.ordinals c.in-Some-3.numbers c.in-Some-3.present head.0 head.1 (c.count_roots-count.ensures ∙ ap (λ (sets : List (List Bool)). count_by is_marked (root_flags sets)) c.as_slice-2.ensures) rows fields).text

pub returns-in_ok-skips-in-Some-3-clause-are : goal.returns-in_ok-skips-in-Some-3-clause-are
returns-in_ok-skips-in-Some-3-clause-are c =
    let head = rw (c.in-Some.is, c.as_slice.ensures.value) at c.in_ok-documents.ensures.taken in
    let rows = rw (c.in-Some-2.is, c.as_slice-3.ensures.value, c.len.ensures, c.args.bytes.ok.0) at c.in_ok-roots.ensures.taken in
    let fields = rw (c.in-Some-3.is, c.as_slice-4.ensures.value) at c.in_ok-ordinals.ensures.taken in
    (all_read c.args.bytes.items c.in-Some.documents c.in-Some.scopes c.in-Some.behind.now c.count_roots-count.result c.in-Some-2.roots c.in-Some-2.terms c.in-Some-2.at c.in-Some-3.ordinals c.in-Some-3.numbers c.in-Some-3.present head.0 head.1 (c.count_roots-count.ensures ∙ ap (λ (sets : List (List Bool)). count_by is_marked (root_flags sets)) c.as_slice-2.ensures) rows fields).are

pub returns-in-None-clause-only : goal.returns-in-None-clause-only
returns-in-None-clause-only c = λ _.
    let head = rw (c.in-Some.is, c.as_slice.ensures.value) at c.in_ok-documents.ensures.taken in
    let rows = rw (c.in-Some-2.is, c.as_slice-3.ensures.value, c.len.ensures, c.args.bytes.ok.0) at c.in_ok-roots.ensures.taken in
    let never = rw (c.in-None.is, c.as_slice-4.ensures.value) at c.in_ok-ordinals.ensures.nowhere in
    no_fields c.words_are_of_one_set.ensures c.args.bytes.items c.in-Some.documents c.in-Some.scopes c.in-Some.behind.now c.count_roots-count.result c.in-Some-2.roots c.in-Some-2.terms c.in-Some-2.at head.0 head.1 (c.count_roots-count.ensures ∙ ap (λ (sets : List (List Bool)). count_by is_marked (root_flags sets)) c.as_slice-2.ensures) rows (never refl)
