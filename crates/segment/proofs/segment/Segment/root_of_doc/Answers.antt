use Rattle.std.proofs.Common.{◌≡◌, ◌∙◌, ◌<◌, ◌≤◌, ℕ, length, sym, subst, arith}
use Rattle.segment_parts.specs.Agree.{AreColumns}
use Rattle.segment.specs.Live.{root_of, block_start, block_end}
use Rattle.segment_parts.specs.Parts.{root_flags}
use Rattle.segment.proofs.Places.{ArePlaces, places-rise, root_before, root_of-within, root_block}
use Rattle.segment.proofs.segment.Segment.root_of_doc.Goals as goal

pub places_before-requires : goal.places_before-requires
places_before-requires c =
    let it : ArePlaces c.self.inside.parts c.args.self.now c.as_slice.result.now = record { seen = c.self.view_is; agree = c.self.invariant.columns; are = c.as_slice.ensures.value ∙ c.self.invariant.places } in
    places-rise c.self.inside.parts c.args.self.now c.as_slice.result.now it

pub overflow_cast-result : goal.overflow_cast-result
overflow_cast-result c =
    let it : ArePlaces c.self.inside.parts c.args.self.now c.as_slice.result.now = record { seen = c.self.view_is; agree = c.self.invariant.columns; are = c.as_slice.ensures.value ∙ c.self.invariant.places } in
    let agree : AreColumns c.args.self.now = subst AreColumns c.self.view_is c.self.invariant.columns in
    let is : c.places_before.result ≡ root_of (root_flags c.args.self.now.scopes) c.args.doc = root_before c.self.inside.parts c.args.self.now c.as_slice.result.now c.args.doc c.places_before.result it c.places_before.ensures in
    omega (arith, is, root_of-within c.args.self.now c.args.doc agree c.requires, agree.parts.roots_are.fewer)

pub returns-clause-root : goal.returns-clause-root
returns-clause-root c =
    let it : ArePlaces c.self.inside.parts c.args.self.now c.as_slice.result.now = record { seen = c.self.view_is; agree = c.self.invariant.columns; are = c.as_slice.ensures.value ∙ c.self.invariant.places } in
    root_before c.self.inside.parts c.args.self.now c.as_slice.result.now c.args.doc c.places_before.result it c.places_before.ensures

pub returns-clause-within : goal.returns-clause-within
returns-clause-within c =
    let it : ArePlaces c.self.inside.parts c.args.self.now c.as_slice.result.now = record { seen = c.self.view_is; agree = c.self.invariant.columns; are = c.as_slice.ensures.value ∙ c.self.invariant.places } in
    let agree : AreColumns c.args.self.now = subst AreColumns c.self.view_is c.self.invariant.columns in
    let is : c.places_before.result ≡ root_of (root_flags c.args.self.now.scopes) c.args.doc = root_before c.self.inside.parts c.args.self.now c.as_slice.result.now c.args.doc c.places_before.result it c.places_before.ensures in
    subst (λ (n : ℕ). n < length c.args.self.now.roots) (sym is) (root_of-within c.args.self.now c.args.doc agree c.requires)

pub returns-clause-inside : goal.returns-clause-inside
returns-clause-inside c =
    let it : ArePlaces c.self.inside.parts c.args.self.now c.as_slice.result.now = record { seen = c.self.view_is; agree = c.self.invariant.columns; are = c.as_slice.ensures.value ∙ c.self.invariant.places } in
    let agree : AreColumns c.args.self.now = subst AreColumns c.self.view_is c.self.invariant.columns in
    let is : c.places_before.result ≡ root_of (root_flags c.args.self.now.scopes) c.args.doc = root_before c.self.inside.parts c.args.self.now c.as_slice.result.now c.args.doc c.places_before.result it c.places_before.ensures in
    subst (λ (n : ℕ). (block_start c.args.self.now.scopes n ≤ c.args.doc) × (c.args.doc < block_end c.args.self.now.scopes n)) (sym is) (root_block c.args.self.now c.args.doc agree c.requires)
