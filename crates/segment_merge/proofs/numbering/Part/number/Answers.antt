use Rattle.std.proofs.Common.{◌≡◌, ◌<◌, ℕ, List, length, get_or, false, Some, ap, subst, ◌∙◌, arith}
use Rattle.std.proofs.lemmas.List.{get_or_default}
use Rattle.segment.specs.Live.{LiveState}
use Rattle.segment_merge.specs.Numbering.{PartState, new_number, numbers_from}
use Rattle.segment_merge.proofs.Numbered.{length-numbers_from, number_is}
use Rattle.segment_merge.proofs.numbering.Part.number.Goals as goal

pub index-requires : goal.index-requires
index-requires c =
    omega (arith, c.requires, ap (λ (part : PartState). part.entry.columns.documents) c.self.view_is, c.live.ensures.over.documents, length-numbers_from c.self.inside.base c.self.inside.entry.now.live.docs, ap (λ (ns : List ℕ). length ns) c.self.invariant, c.self.inside.numbers.ok.0)

pub returns-then-doc : goal.returns-then-doc
returns-then-doc c =
    let part : PartState = record { base = c.self.inside.base; entry = c.self.inside.entry.now } in
    let inside : c.args.doc < length part.entry.live.docs = omega (arith, c.requires, ap (λ (p : PartState). p.entry.columns.documents) c.self.view_is, c.live.ensures.over.documents) in
    let there : c.args.doc < length c.self.inside.numbers.items = omega (arith, inside, length-numbers_from part.base part.entry.live.docs, ap (λ (ns : List ℕ). length ns) c.self.invariant) in
    let read : c.index.result.now ≡ get_or (numbers_from part.base part.entry.live.docs) c.args.doc 0 =
    c.index.ensures ∙ get_or_default c.self.inside.numbers.items c.args.doc c.index.result.now 0 there ∙ ap (λ (ns : List ℕ). get_or ns c.args.doc 0) c.self.invariant in
    subst (λ (p : PartState). Some c.index.result.now ≡ new_number p c.args.doc) c.self.view_is
    (number_is part c.args.doc c.index.result.now c.doc.result c.if-doc.true (c.doc.ensures ∙ ap (λ (live : LiveState). get_or live.docs c.args.doc false) c.live.ensures.live) inside read)
