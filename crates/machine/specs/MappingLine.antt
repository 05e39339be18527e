-- What a mapping line does: it sets the mapping, or adds to it (Elasticsearch reference, update mapping API).
use Rattle.std.specs.Prelude.{ℕ, Bool, false, not, if◌then◌else◌, List, [], ◌∷◌, ◌++◌, codes, Option, Some, None, option_map}
use Rattle.std.specs.Str.{bytes_eq}
use Rattle.tree_json.specs.Value.{JsonValue, bool, text}
use Rattle.mapping_body.specs.Body.{is_body, member_named}
use Rattle.mapping_body.specs.declared.refusal.Limit.{Limit}
use Rattle.mapping_body.specs.declared.refusal.Limit.TheVariants as by
use Rattle.mapping_growth.specs.Bodies.{adds, conflict_of, exceeded}
use Rattle.mapping.specs.Mapping.{Mapping, mapping_of}
use Rattle.reply_text.specs.declared.refusal.MappingLimit.{MappingLimit}
use Rattle.reply_text.specs.declared.refusal.MappingLimit.TheVariants.{Fields, Depth, Nested, Relations, Generations, Size}
use Rattle.reply_text.specs.declared.refusal.Refusal.{Refusal}
use Rattle.reply_text.specs.declared.refusal.Refusal.TheVariants as why
use Rattle.reply_text.specs.declared.reply.Reply.TheVariants.{Mapped}
use Rattle.machine.specs.Answer.{Answer, answers, when, unless}
use Rattle.machine.specs.State.{State}

-- the limit that a reply names
abbrev pub limit_named : Limit → MappingLimit
limit_named by.Fields = Fields
limit_named by.Depth = Depth
limit_named by.Nested = Nested
limit_named by.Relations = Relations
limit_named by.Generations = Generations
limit_named by.Size = Size

abbrev pub limit_refusal : Option Limit → Option Refusal
limit_refusal limit = option_map (λ l. why.MappingLimit (limit_named l)) limit

-- a text under a name of a body isn't this one
abbrev pub is_other_text : List ℕ → Option JsonValue → Bool
is_other_text name (Some (text s)) = not (bytes_eq s name)
is_other_text name v = false

abbrev pub conflict_refusal : Option (List ℕ) → Option Refusal
conflict_refusal path = option_map (λ p. why.MappingConflict p) path

-- the flag that a body gives, or else the one before
abbrev pub flag_after : Bool → Option JsonValue → Bool
flag_after before (Some (bool b)) = b
flag_after before v = before

-- ---- the first mapping line

abbrev pub first_refusals : JsonValue → List (Option Refusal)
first_refusals body = when (not (is_body body)) why.BadRequest ∷ limit_refusal (exceeded (body ∷ [])) ∷ []

abbrev pub with_content_mapping : Mapping → State → State
with_content_mapping m state = record state { content = record state.content { mapping = Some m } }

abbrev pub first_mapping : JsonValue → Mapping
first_mapping body = mapping_of (body ∷ []) (flag_after false (member_named body (codes "dynamic")))

abbrev pub first_done : JsonValue → State → Answer
first_done body state = answers Mapped (with_content_mapping (first_mapping body) state)

-- ---- a growing line

-- the bodies with one more, where that adds a property or the name of a relation
abbrev pub bodies_with : List JsonValue → JsonValue → List JsonValue
bodies_with bodies body = if adds bodies body then bodies ++ body ∷ [] else bodies

abbrev pub growth_limit : List JsonValue → JsonValue → Option Limit
growth_limit bodies body = if adds bodies body then exceeded (bodies ++ body ∷ []) else None

abbrev pub growing_refusals : Mapping → JsonValue → List (Option Refusal)
growing_refusals m body =
    when (not (is_body body)) why.BadRequest
    ∷ when (is_other_text m.index (member_named body (codes "index"))) why.IndexNotFound
    ∷ conflict_refusal (conflict_of m.bodies body)
    ∷ limit_refusal (growth_limit m.bodies body) ∷ []

abbrev pub grown_mapping : Mapping → JsonValue → Mapping
grown_mapping m body = mapping_of (bodies_with m.bodies body) (flag_after m.dynamic (member_named body (codes "dynamic")))

abbrev pub growing_done : Mapping → JsonValue → State → Answer
growing_done m body state = answers Mapped (with_content_mapping (grown_mapping m body) state)

abbrev pub mapping_by : JsonValue → Option Mapping → State → Answer
mapping_by body None state = unless (first_refusals body) (first_done body state)
mapping_by body (Some m) state = unless (growing_refusals m body) (growing_done m body state)

unfoldable pub mapping_step : JsonValue → State → Answer
mapping_step body state = mapping_by body state.content.mapping state
