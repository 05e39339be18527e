-- The names of a path, joined again, are the path.
use Rattle.std.proofs.Common.{◌≡◌, ℕ, ◌==◌, List as Seq, [], ◌∷◌, refl, sym, ap, ◌∙◌}
use Rattle.std.specs.List.{join_with_byte}
use Rattle.std.proofs.lemmas.Bool.{eqb-true}
use Rattle.mapping_body.specs.Names.{before_name, dot, split as split_path}
use Rattle.flattener.specs.Walked.{names_behind}
use Rattle.mapping_body.proofs.Walks.{split}

joined_before : (byte : ℕ) (names : Seq (Seq ℕ)) → join_with_byte dot (before_name byte names) ≡ byte ∷ join_with_byte dot names
joined_before byte [] = refl
joined_before byte (name ∷ []) = refl
joined_before byte (name ∷ other ∷ names) = refl

-- there is a first name
record Some_names (names : Seq (Seq ℕ)) : Type 0 where
  pub first : Seq ℕ
  pub others : Seq (Seq ℕ)
  pub are : names ≡ first ∷ others

some_before : (byte : ℕ) (names : Seq (Seq ℕ)) → Some_names (before_name byte names)
some_before byte [] = record { first = byte ∷ []; others = []; are = refl }
some_before byte (name ∷ names) = record { first = byte ∷ name; others = names; are = refl }

some_split : (path : Seq ℕ) → Some_names (split_path path)
some_split [] = record { first = []; others = []; are = refl }
some_split (byte ∷ path) =
    split (byte == dot)
    (λ yes. rw yes (record { first = []; others = split_path path; are = refl }))
    (λ no. rw no (some_before byte (split_path path)))

joined_dot : (names : Seq (Seq ℕ)) → Some_names names → join_with_byte dot ([] ∷ names) ≡ dot ∷ join_with_byte dot names
joined_dot names some = rw some.are refl

joined_split : (path : Seq ℕ) → join_with_byte dot (split_path path) ≡ path
joined_split [] = refl
joined_split (byte ∷ path) =
    split (byte == dot)
    (λ yes.
    let here : byte ≡ dot = eqb-true byte dot yes in
    rw yes (joined_dot (split_path path) (some_split path) ∙ ap (λ rest. dot ∷ rest) (joined_split path) ∙ ap (λ b. b ∷ path) (sym here)))
    (λ no. rw no (joined_before byte (split_path path) ∙ ap (λ rest. byte ∷ rest) (joined_split path)))

pub joined_behind : (path : Seq ℕ) → path ≡ join_with_byte dot (names_behind path)
joined_behind [] = refl
joined_behind (byte ∷ path) = sym (joined_split (byte ∷ path))

pub ruleset namings = (joined_behind)
