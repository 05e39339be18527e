-- What is handed out in one call: the mapping, or a change with what comes behind it.
use Rattle.std.proofs.Common.{◌≡◌, ℕ, ◌+◌, ◌-◌, ◌<◌, ◌≤◌, ◌++◌, List, [], ◌∷◌, length, refl, sym, ap, ◌∙◌, arith, suc, append_assoc, length-append, ◌&&◌, ◌==◌, Bool, true, false, nat_lt, if◌then◌else◌, ◌%◌}
use Rattle.std.specs.Prelude.{codes}
use Rattle.std.proofs.lemmas.List.{append-nil}
use Rattle.made_load.specs.declared.input.Part.{Part}
use Rattle.made_load.specs.declared.input.Part.TheVariants.{Mapping, Changes}
use Rattle.made_load.specs.Draws.{drawn, next_state}
use Rattle.made_load.specs.Given.{Gives}
use Rattle.made_load.specs.Left.{lines_left}
use Rattle.made_load.specs.Lines.{changes, change, pauses, search_behind, merge_behind, search_line, merge_line, mapping_line, commit_line, lines_text, deletion, insertion}
use Rattle.made_load.proofs.Rows.{lines_joined}

-- what is left of the changes behind one
changes_more : (document count state : ℕ) → document < count
    → changes document (count - document) state ≡ ((change document state).lines ++ pauses document) ++ changes (document + 1) (count - (document + 1)) (change document state).after
changes_more document count state h =
    let e : count - document ≡ suc (count - (document + 1)) = omega arith in rw e refl

-- ---- how many lines a change and a pause have

either_few : (deletes : Bool) (document state : ℕ)
    → (1 ≤ length (if deletes then deletion document state else insertion document state).lines)
    × (length (if deletes then deletion document state else insertion document state).lines ≤ 2)
either_few true document state = (omega arith, omega arith)
either_few false document state = (omega arith, omega arith)

change_few : (document state : ℕ) → (1 ≤ length (change document state).lines) × (length (change document state).lines ≤ 2)
unfolding change
change_few document state = either_few (drawn 10 state == 0 && nat_lt 0 document) document (next_state state)

one_or_none : (there : Bool) (line : List ℕ) → length (if there then line ∷ [] else []) ≤ 1
one_or_none true line = omega arith
one_or_none false line = omega arith

pauses_few : (document : ℕ) → length (pauses document) ≤ 2
unfolding pauses search_behind merge_behind
pauses_few document =
    let ones : List (List ℕ) = if document % 100 == 99 then search_line ∷ [] else [] in
    let others : List (List ℕ) = if document % 1000 == 999 then merge_line ∷ [] else [] in
    let e : length (ones ++ others) ≡ length ones + length others = length-append ones others in
    omega (arith, e, one_or_none (document % 100 == 99) search_line, one_or_none (document % 1000 == 999) merge_line)

-- ---- what is handed out

pub handed_mapping : (part : Part) (document count state : ℕ) (left : List (List ℕ)) (bytes bytes' bytes'' : List ℕ)
    → left ≡ lines_left part document count state → part ≡ Mapping → bytes' ≡ bytes → bytes'' ≡ bytes' ++ (mapping_line ++ codes "\n")
    → Gives left (lines_left Changes document count state) bytes bytes''
handed_mapping part document count state left bytes bytes' bytes'' shown is same put =
    record {
      lines = mapping_line ∷ [];
      parts = shown ∙ ap (λ (it : Part). lines_left it document count state) is;
      some = omega arith;
      few = omega arith;
      written =
          put
          ∙ (ap (λ (it : List ℕ). it ++ (mapping_line ++ codes "\n")) same
          ∙ ap (λ (it : List ℕ). bytes ++ it) (sym (append-nil (mapping_line ++ codes "\n"))));
    }

pub handed_change : (part : Part) (document count state state' : ℕ) (left : List (List ℕ)) (bytes bytes' changed paused : List ℕ)
    → left ≡ lines_left part document count state → part ≡ Changes → document < count → state' ≡ (change document state).after
    → bytes' ≡ bytes → changed ≡ bytes' ++ lines_text (change document state).lines → paused ≡ changed ++ lines_text (pauses document)
    → Gives left (lines_left part (document + 1) count state') bytes paused
handed_change part document count state state' left bytes bytes' changed paused shown is more after same put put' =
    let lines : List (List ℕ) = (change document state).lines ++ pauses document in
    let e : length lines ≡ length (change document state).lines + length (pauses document) = length-append (change document state).lines (pauses document) in
    let few = change_few document state in
    record {
      lines = lines;
      parts =
          shown
          ∙ (ap (λ (it : Part). lines_left it document count state) is
          ∙ (ap (λ (it : List (List ℕ)). it ++ commit_line ∷ []) (changes_more document count state more)
          ∙ (append_assoc lines (changes (document + 1) (count - (document + 1)) (change document state).after) (commit_line ∷ [])
          ∙ (ap (λ (it : ℕ). lines ++ (changes (document + 1) (count - (document + 1)) it ++ commit_line ∷ [])) (sym after)
          ∙ ap (λ (it : Part). lines ++ lines_left it (document + 1) count state') (sym is)))));
      some = omega (arith, e, few.0);
      few = omega (arith, e, few.1, pauses_few document);
      written =
          put'
          ∙ (ap (λ (it : List ℕ). it ++ lines_text (pauses document)) (put ∙ ap (λ (it : List ℕ). it ++ lines_text (change document state).lines) same)
          ∙ (append_assoc bytes (lines_text (change document state).lines) (lines_text (pauses document))
          ∙ ap (λ (it : List ℕ). bytes ++ it) (sym (lines_joined (change document state).lines (pauses document)))));
    }
