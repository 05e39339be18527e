-- How many stored sources a request may read.
use Rattle.std.specs.Prelude.{ℕ, List, Option, Some, None}
use Rattle.line_reader.specs.Request.{Request}
use Rattle.machine.specs.Searching.{searched}
use Rattle.machine.specs.State.{State}
use Rattle.mapping.specs.Mapping.{Mapping}
use Rattle.query_ast.specs.Search.{hit_page}
use Rattle.query_ast.specs.declared.search.SearchBody.{SearchBody}
use Rattle.query_parser.specs.Search.{search_of}
use Rattle.request_form.specs.Asked.{Asked, refused, asks, asked_of}
use Rattle.request_form.specs.Command.{Operation, index, create, update, delete, Action, map_body, write, search, refresh, segments, open_pit, close_pit, force_merge, start_merge, advance_merge, finish_merge, abort_merge, commit, compact, trim, automerge}
use Rattle.search_page.specs.Searched.{page_reads}
use Rattle.search_walk.specs.Refusal.{first_refusal}
use Rattle.search_walk.specs.declared.refusal.SearchRefusal.{SearchRefusal}
use Rattle.tree_json.specs.Value.{JsonValue}
use Rattle.tree_objects.specs.Tree.{Tree}

-- an update reads the live source
abbrev pub reads_of : Operation → ℕ
reads_of (index source) = 0
reads_of (create source) = 0
reads_of (update changes) = 1
reads_of delete = 0

-- a search reads at most the source of each hit on its page and of each joined tree among the inner hits there
abbrev pub page_reads_of : Mapping → SearchBody → Option (List Tree) → ℕ
page_reads_of m body None = 0
page_reads_of m body (Some live) = page_reads (hit_page m live body)

-- and none where its body is refused for something
abbrev pub reads_unless : Option SearchRefusal → ℕ → ℕ
reads_unless None most = most
reads_unless (Some why) most = 0

abbrev pub hits_of : JsonValue → Option Mapping → State → ℕ
hits_of body None state = 0
hits_of body (Some m) state = reads_unless (first_refusal m body) (page_reads_of m (search_of m body) (searched (search_of m body).pit state))

abbrev pub reads_by : State → Action → ℕ
reads_by state (map_body body) = 0
reads_by state (write it) = reads_of it.operation
reads_by state (search body) = hits_of body state.content.mapping state
reads_by state refresh = 0
reads_by state segments = 0
reads_by state open_pit = 0
reads_by state (close_pit id) = 0
reads_by state (force_merge most) = 0
reads_by state (start_merge from count) = 0
reads_by state (advance_merge id roots) = 0
reads_by state (finish_merge id) = 0
reads_by state (abort_merge id) = 0
reads_by state commit = 0
reads_by state (compact most) = 0
reads_by state trim = 0
reads_by state (automerge factor) = 0

abbrev pub reads_asked : State → Asked → ℕ
reads_asked state (refused why) = 0
reads_asked state (asks action) = reads_by state action

abbrev pub most_reads : State → Request → ℕ
most_reads state request = reads_asked state (asked_of request.first request.source)
