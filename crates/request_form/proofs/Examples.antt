-- Lines and what they ask for, computed. The values under the names are those of the bulk API's page in the Elasticsearch
-- reference; the refusals are each rule's own.
use Rattle.std.specs.Prelude.{◌≡◌, ℕ, pos, negsuc, true, false, List, [], codes, Some, None}
use Rattle.std.proofs.Common.{refl}
use Rattle.std.specs.Fmt.{digits}
use Rattle.tree_json.specs.Value.{JsonValue, bool, whole, text, list, object, no_elements, Members, no_members, member}
use Rattle.request_form.specs.Command.{command_of, alone, indexes, updates, refresh, force_merge, start_merge, commit, compact, trim, automerge, write, delete, update}
use Rattle.request_form.specs.Asked.{operation_of}

abbrev line : List ℕ → Members → JsonValue
line name under = object (member name (object under) no_members)

abbrev by_id : List ℕ → Members
by_id id = member (codes "_id") (text id) no_members

index_by_text : command_of (line (codes "index") (by_id (codes "7"))) ≡ Some (indexes (record { id = codes "7"; index = None; if_seq_no = None }))
unfolding command_of
index_by_text = refl

index_by_number : command_of (line (codes "index") (member (codes "_id") (whole (pos 7)) no_members)) ≡ Some (indexes (record { id = codes "7"; index = None; if_seq_no = None }))
unfolding command_of digits
index_by_number = refl

index_by_an_empty_text : command_of (line (codes "index") (by_id [])) ≡ None
unfolding command_of
index_by_an_empty_text = refl

index_by_a_negative_number : command_of (line (codes "index") (member (codes "_id") (whole (negsuc 0)) no_members)) ≡ None
unfolding command_of
index_by_a_negative_number = refl

index_without_an_id : command_of (line (codes "index") no_members) ≡ None
unfolding command_of
index_without_an_id = refl

index_with_another_name : command_of (line (codes "index") (member (codes "_id") (text (codes "7")) (member (codes "_type") (text (codes "a")) no_members))) ≡ None
unfolding command_of
index_with_another_name = refl

create_with_a_number : command_of (line (codes "create") (member (codes "_id") (text (codes "7")) (member (codes "if_seq_no") (whole (pos 0)) no_members))) ≡ None
unfolding command_of
create_with_a_number = refl

delete_with_all_names :
    command_of (line (codes "delete") (member (codes "_id") (text (codes "7")) (member (codes "_index") (text (codes "main")) (member (codes "if_primary_term") (whole (pos 1))
    (member (codes "if_seq_no") (whole (pos 3)) (member (codes "routing") (text []) no_members))))))
    ≡ Some (alone (write (record { target = record { id = codes "7"; index = Some (codes "main"); if_seq_no = Some 3 }; operation = delete })))
unfolding command_of
delete_with_all_names = refl

delete_with_another_term : command_of (line (codes "delete") (member (codes "_id") (text (codes "7")) (member (codes "if_primary_term") (whole (pos 2)) no_members))) ≡ None
unfolding command_of
delete_with_another_term = refl

bare_refresh : command_of (line (codes "refresh") no_members) ≡ Some (alone refresh)
unfolding command_of
bare_refresh = refl

refresh_with_a_name : command_of (line (codes "refresh") (by_id (codes "7"))) ≡ None
unfolding command_of
refresh_with_a_name = refl

merges_to_one : command_of (line (codes "forcemerge") no_members) ≡ Some (alone (force_merge 1))
unfolding command_of
merges_to_one = refl

merges_to_none : command_of (line (codes "forcemerge") (member (codes "max_num_segments") (whole (pos 0)) no_members)) ≡ None
unfolding command_of
merges_to_none = refl

starts_a_merge : command_of (line (codes "merge") (member (codes "start") (object (member (codes "count") (whole (pos 2)) (member (codes "from") (whole (pos 0)) no_members))) no_members)) ≡ Some (alone (start_merge 0 2))
unfolding command_of
starts_a_merge = refl

merges_two_parts : command_of (line (codes "merge") (member (codes "abort") (object (member (codes "id") (whole (pos 1)) no_members)) (member (codes "finish") (object (member (codes "id") (whole (pos 1)) no_members)) no_members))) ≡ None
unfolding command_of
merges_two_parts = refl

merges_by_itself : command_of (line (codes "automerge") (member (codes "on") (bool true) no_members)) ≡ Some (alone (automerge (Some 2)))
unfolding command_of
merges_by_itself = refl

merges_by_itself_no_more : command_of (line (codes "automerge") (member (codes "factor") (whole (pos 10)) (member (codes "on") (bool false) no_members))) ≡ Some (alone (automerge None))
unfolding command_of
merges_by_itself_no_more = refl

merges_by_one : command_of (line (codes "automerge") (member (codes "factor") (whole (pos 1)) (member (codes "on") (bool true) no_members))) ≡ None
unfolding command_of
merges_by_one = refl

bare_commit : command_of (line (codes "commit") no_members) ≡ Some (alone commit)
unfolding command_of
bare_commit = refl

compacts_by_one : command_of (line (codes "compact") no_members) ≡ Some (alone (compact 1))
unfolding command_of
compacts_by_one = refl

compacts_by_a_thousand : command_of (line (codes "compact") (member (codes "moves") (whole (pos 1000)) no_members)) ≡ Some (alone (compact 1000))
unfolding command_of
compacts_by_a_thousand = refl

compacts_by_more : command_of (line (codes "compact") (member (codes "moves") (whole (pos 1001)) no_members)) ≡ None
unfolding command_of
compacts_by_more = refl

compacts_by_none : command_of (line (codes "compact") (member (codes "moves") (whole (pos 0)) no_members)) ≡ None
unfolding command_of
compacts_by_none = refl

bare_trim : command_of (line (codes "trim") no_members) ≡ Some (alone trim)
unfolding command_of
bare_trim = refl

trim_with_a_name : command_of (line (codes "trim") (member (codes "bytes") (whole (pos 2048)) no_members)) ≡ None
unfolding command_of
trim_with_a_name = refl

an_unknown_command : command_of (line (codes "reindex") no_members) ≡ None
unfolding command_of
an_unknown_command = refl

two_commands : command_of (object (member (codes "commit") (object no_members) (member (codes "refresh") (object no_members) no_members))) ≡ None
unfolding command_of
two_commands = refl

no_object : command_of (list no_elements) ≡ None
unfolding command_of
no_object = refl

-- ---- source lines of an update

abbrev a_document : Members
a_document = member (codes "doc") (object no_members) no_members

with_a_number : operation_of (updates (record { id = codes "7"; index = None; if_seq_no = Some 1 })) (object a_document) ≡ Some (update (record { doc = object no_members; upsert = None; doc_as_upsert = false }))
with_a_number = refl

with_a_number_and_an_upsert : operation_of (updates (record { id = codes "7"; index = None; if_seq_no = Some 1 })) (object (member (codes "doc") (object no_members) (member (codes "upsert") (object no_members) no_members))) ≡ None
with_a_number_and_an_upsert = refl

with_a_number_and_the_flag_false : operation_of (updates (record { id = codes "7"; index = None; if_seq_no = Some 1 })) (object (member (codes "doc") (object no_members) (member (codes "doc_as_upsert") (bool false) no_members)))
    ≡ Some (update (record { doc = object no_members; upsert = None; doc_as_upsert = false }))
with_a_number_and_the_flag_false = refl

without_a_document : operation_of (updates (record { id = codes "7"; index = None; if_seq_no = None })) (object (member (codes "upsert") (object no_members) no_members)) ≡ None
without_a_document = refl
