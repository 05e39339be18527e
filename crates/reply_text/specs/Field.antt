-- The texts of fields as they are written. `Objects` in `proofs/` leads from them to objects.
use Rattle.std.specs.Prelude.{ℕ, List, [], ◌∷◌, ◌++◌, Bool, true, decimal}
use Rattle.std.specs.Fmt.{signed_decimal}
use Rattle.tree_json.specs.Text.{quoted, comma_if}
use Rattle.reply_text.specs.declared.field.Field.{Field}
use Rattle.reply_text.specs.declared.field.Value.{Value}
use Rattle.reply_text.specs.declared.field.Value.TheVariants.{Count, Whole, Text}

abbrev pub value_text : Value → List ℕ
value_text (Count n) = decimal n
value_text (Whole z) = signed_decimal z
value_text (Text s) = quoted s.now

abbrev pub field_text : Field → List ℕ
field_text f = f.0.now ++ value_text f.1

abbrev pub fields_text : Bool → List Field → List ℕ
fields_text later [] = []
fields_text later (f ∷ fs) = comma_if later ++ (field_text f ++ fields_text true fs)
