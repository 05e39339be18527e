-- The action line of `index`, and a first line by way of its value.
use Rattle.std.proofs.Common.{◌≡◌, ℕ, ◌<◌, true, false, eqb, ◌&&◌, cond, List, [], ◌∷◌, length, codes, Option, Some, None, sym, ap, ◌∙◌, lt-ltb, arith}
use Rattle.tree_json.specs.OneText.{one_text}
use Rattle.tree_json.specs.Reading.{Reading, bad_json, fraction, value}
use Rattle.tree_json.specs.Value.{JsonValue}
use Rattle.tree_json.specs.declared.reader.JsonRefusal.TheVariants as Json
use Rattle.request_form.specs.Command.{Target, Command, indexes, command_of}
use Rattle.request_form.specs.Asked.{asked_in, asked_by}
use Rattle.request_form.specs.Seen.{AsksAs, IsRefusedFirst, no_action_of}
use Rattle.request_form.specs.declared.request.NoAction.TheVariants.{NoMemory}

command_is : (id : List ℕ) → 0 < length id → command_of (one_text (codes "index") (codes "_id") id) ≡ Some (indexes (record { id = id; index = None; if_seq_no = None }))
unfolding command_of
command_is id some = ap (λ b. cond (b && true) (Some (indexes (record { id = id; index = None; if_seq_no = None }))) None) (lt-ltb 0 (length id) some)

pub index_line : (line : Reading) (outer inner id : List ℕ) (target : Target) → line ≡ value (one_text outer inner id) → outer ≡ codes "index" → inner ≡ codes "_id" → 0 < length id
    → target ≡ record { id = id; index = None; if_seq_no = None } → AsksAs line (Some (indexes target))
index_line line outer inner id target reads first second some same = record {
  asks = λ source. ap (λ l. asked_in l source) reads ∙ ap (λ o. asked_in (value (one_text o inner id)) source) first ∙ ap (λ i. asked_in (value (one_text (codes "index") i id)) source) second
      ∙ ap (λ command. asked_by command source) (command_is id some) ∙ ap (λ t. asked_by (Some (indexes t)) source) (sym same);
}

pub value_line : (line : Reading) (v : JsonValue) (command : Option Command) → line ≡ value v → command ≡ command_of v → AsksAs line command
value_line line v command reads is = record { asks = λ source. ap (λ l. asked_in l source) reads ∙ ap (λ c. asked_by c source) (sym is) }

pub bad_line : (line : Reading) → line ≡ bad_json → IsRefusedFirst line (no_action_of Json.BadJson)
bad_line line reads = record { refuses = λ source. ap (λ l. asked_in l source) reads }

pub fraction_line : (line : Reading) → line ≡ fraction → IsRefusedFirst line (no_action_of Json.FractionNumber)
fraction_line line reads = record { refuses = λ source. ap (λ l. asked_in l source) reads }

pub no_memory_line : (line : Reading) → IsRefusedFirst line NoMemory
no_memory_line line = record { refuses = λ source. tt }

pub ruleset first_lines = (index_line, value_line, bad_line, fraction_line, no_memory_line)

pub some_bytes : (id : List ℕ) → false ≡ eqb (length id) 0 → 0 < length id
some_bytes [] e = absurd (cc)
some_bytes (byte ∷ id) e = omega arith
