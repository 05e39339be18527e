-- Serves proofs: the key that is looked at.
use Rattle.query_ast.specs.declared.sort.Key.{Key}
use Rattle.query_ast.specs.declared.sort.Key.TheVariants.{Null as NoKey, Number as NumberKey, Written as WrittenKey}
use Rattle.hit_order.specs.declared.compare.KeyRef.{KeyRef}
use Rattle.hit_order.specs.declared.compare.KeyRef.TheVariants.{Null, Number, Written}

abbrev pub key_shown : KeyRef → Key
key_shown Null = NoKey
key_shown (Number z) = NumberKey z
key_shown (Written s) = WrittenKey s.now
