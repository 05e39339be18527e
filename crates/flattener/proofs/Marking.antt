-- A set of fields grows by those that a source names, and a document by those of a set.
use Rattle.std.proofs.Common.{◌≡◌, ℕ, ◌+◌, ◌-◌, ◌<◌, ◌≤◌, Bool, false, List as Seq, [], ◌∷◌, ◌++◌, length, subst, arith, get_or, Some, None}
use Rattle.block_bits.specs.Flags.{is_marked}
use Rattle.block_bits.specs.Places.{next_place}
use Rattle.block_bits.proofs.Places.{IsNextPlace, next_place-is, next_place-empty}
use Rattle.mapping.specs.Mapping.{Mapping}
use Rattle.segment.specs.Flat.{FlatDocument}
use Rattle.tree_json.specs.Value.{JsonValue}
use Rattle.flattener.specs.Adds.{IsBegun}
use Rattle.flattener.specs.Named.{Marks, MarksBut, Misses}
use Rattle.flattener.specs.Walked.{flat_at, shown_items}
use Rattle.flattener.proofs.Documents.{begun_all}
use Rattle.flattener.proofs.Unshown.{begun_over}

pub marks_none : (marks : Seq Bool) → Marks marks marks []
marks_none marks f missed none = (tt, missed)

misses_both : (f : ℕ) (es fs : Seq ℕ) → Misses f es → Misses f fs → Misses f (es ++ fs)
misses_both f [] fs one two = two
misses_both f (e ∷ es) fs one two = (one.0, misses_both f es fs one.1 two)

pub marks_begin : (marks : Seq Bool) (all : Seq ℕ) → MarksBut marks marks all all
marks_begin marks all f missed misses = (misses, missed)

pub marks_on : (old now new : Seq Bool) (own left all : Seq ℕ) → MarksBut old now (own ++ left) all → Marks now new own → MarksBut old new left all
marks_on old now new own left all was more f missed misses =
    let next = more f missed tt in
    was f next.1 (misses_both f own left next.0 misses)

pub ruleset marking = (marks_none, marks_begin, marks_on)

-- ---- over the fields of a set, where no other shows anything

module _ (m : Mapping) (g s : ℕ) (v : JsonValue) (flags : Seq Bool) (long : length flags ≡ length m.fields)
    (others : (f : ℕ) → f < length m.fields → get_or flags f false ≡ false → shown_items m g f s v ≡ []) (from : ℕ) (d : FlatDocument) where
  -- up to the next of them
  pub begun_before : (at : ℕ) → next_place is_marked from flags ≡ Some at → IsBegun m g s v from d → IsBegun m g s v at d
  begun_before at next begun =
      let is : IsNextPlace is_marked from flags false at = next_place-is is_marked from flags false at next in
      let low : from ≤ at = is.low in
      let high : at < length m.fields = omega (arith, is.high, long) in
      let here : from + (at - from) ≡ at = omega (arith, low) in
      subst (λ (n : ℕ). IsBegun m g s v n d) here
      (begun_over m g s v d from (at - from) (omega (arith, low, high)) (λ f above below.
      let before : f < at = omega (arith, below, low) in
      others f (omega (arith, before, high)) (is.before f above before)) begun)

  -- and to the end, where there is none
  pub begun_behind : next_place is_marked from flags ≡ None → from ≤ length m.fields → IsBegun m g s v from d → d ≡ flat_at m g s v
  begun_behind none low begun =
      let here : from + (length m.fields - from) ≡ length m.fields = omega (arith, low) in
      let whole : IsBegun m g s v (length m.fields) d =
      subst (λ (n : ℕ). IsBegun m g s v n d) here
      (begun_over m g s v d from (length m.fields - from) (omega (arith, low)) (λ f above below.
      let within : f < length m.fields = omega (arith, below, low) in
      others f within (next_place-empty is_marked from flags false none f above (omega (arith, within, long)))) begun) in
      begun_all m g s v (length m.fields) d (omega arith) whole
