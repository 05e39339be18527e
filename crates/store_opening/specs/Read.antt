-- What the bytes behind a header give: a record, the values that its bodies are texts of, and places that it may name.
use Rattle.std.specs.Prelude.{◌≡◌, ℕ, ◌%◌, ◌≤◌, ◌<◌, Bool, false, List, [], ◌∷◌, ◌++◌, length}
use Rattle.std.specs.List.{AllZip}
use Rattle.extent_pool.specs.declared.extent.TheConstants.{UNIT}
use Rattle.extent_pool.specs.declared.extent.Extent.{Extent}
use Rattle.mapping.specs.Mapping.{Mapping, mapping_of}
use Rattle.mapping_growth.specs.Bodies.{AreBodies}
use Rattle.store_text.specs.Header.{header_size}
use Rattle.store_text.specs.Pieces.{Stands}
use Rattle.store_text.specs.Record.{record_text, IsRecord}
use Rattle.store_text.specs.declared.record.RecordText.{RecordText}
use Rattle.tree_json.specs.Reading.{reading, value}
use Rattle.tree_json.specs.Text.{compact}
use Rattle.tree_json.specs.Value.{JsonValue}

-- ---- a record

-- the text of a record stands in the file where a slot says
pub record HasRecord (at len : ℕ) (it : RecordText) (file : List ℕ) : Type 0 where
  pub numbers : IsRecord it
  pub long : length (record_text it) ≡ len
  pub stands : Stands file (record { at = at; bytes = record_text it })

-- ---- bodies

-- The bytes are the compact text of the value, and are read as it.
pub record IsTextOf (v : JsonValue) (bytes : List ℕ) : Type 0 where
  pub text : bytes ≡ compact v
  pub reads : reading bytes ≡ value v

-- Values by which a mapping grew, behind others: with each of them the bodies are a mapping.
abbrev pub AreGrown : List JsonValue → List JsonValue → Type 0
AreGrown before [] = Unit {0}
AreGrown before (v ∷ vs) = AreBodies (before ++ v ∷ []) × AreGrown (before ++ v ∷ []) vs

-- the bodies, one at least, are the texts of values by which the mapping grew
pub record IsMappingOf (bodies : List (List ℕ)) (dynamic : Bool) (m : Mapping) : Type 0 where
  pub some : 0 < length bodies
  pub values : List JsonValue
  pub texts : AllZip IsTextOf values bodies
  pub grown : AreGrown [] values
  pub says : m ≡ mapping_of values dynamic

-- the mapping of one body, which is the text of a value
pub record IsFirst (body : List ℕ) (m : Mapping) : Type 0 where
  pub value : JsonValue
  pub text : IsTextOf value body
  pub are : AreBodies (value ∷ [])
  pub says : m ≡ mapping_of (value ∷ []) false

-- a mapping with one body more, which is the text of a value
pub record IsGrownBy (body : List ℕ) (old new : Mapping) : Type 0 where
  pub value : JsonValue
  pub text : IsTextOf value body
  pub are : AreBodies (old.bodies ++ value ∷ [])
  pub says : new ≡ mapping_of (old.bodies ++ value ∷ []) old.dynamic

-- ---- extents

-- a place that a store of at most so many bytes may name, but for what it may share with others, no longer than the store
pub record IsPlace (limit : ℕ) (extent : Extent) : Type 0 where
  pub aligned : extent.at % UNIT ≡ 0
  pub behind : header_size ≤ extent.at
  pub some : 1 ≤ extent.len
  pub short : extent.len ≤ limit
