-- The sources: a name, and up to three offers, each with a color, a price and up to two objects of its stock.
use Rattle.std.specs.Prelude.{ℕ, suc, zero, Bool, true, false, List, [], ◌++◌, ◌==◌, if◌then◌else◌, codes, decimal}
use Rattle.tree_json.specs.Text.{comma_if}
use Rattle.made_load.specs.Draws.{next_state, drawn, Drawn}

-- so many texts drawn one after the other, with commas between them; `later` says that one stands before
abbrev pub several : (ℕ → Drawn) → Bool → ℕ → ℕ → Drawn
several one later zero state = record { text = []; after = state }
several one later (suc count) state =
    record {
      text = comma_if later ++ ((one state).text ++ (several one true count (one state).after).text);
      after = (several one true count (one state).after).after;
    }

abbrev pub color_name : ℕ → List ℕ
color_name color = if color == 0 then codes "red" else (if color == 1 then codes "blue" else codes "green")

abbrev pub site_name : ℕ → List ℕ
site_name site = if site == 0 then codes "a" else codes "b"

-- an object of a stock: how many there are, below 10, and then where, at one of two sites
unfoldable pub stock_item : ℕ → Drawn
stock_item state =
    record {
      text = codes "{\"n\":" ++ (decimal (drawn 10 state) ++ (codes ",\"site\":\"" ++ (site_name (drawn 2 (next_state state)) ++ codes "\"}")));
      after = next_state (next_state state);
    }

-- a stock of up to two objects: first how many, then these
unfoldable pub stock : ℕ → Drawn
stock state = several stock_item false (drawn 3 state) (next_state state)

-- an offer: the color, then the price, below 100, then the stock
unfoldable pub offer : ℕ → Drawn
offer state =
    let items : Drawn = stock (next_state (next_state state)) in
    record {
      text =
          codes "{\"color\":\"" ++ (color_name (drawn 3 state)
          ++ (codes "\",\"price\":" ++ (decimal (drawn 100 (next_state state)) ++ (codes ",\"stock\":[" ++ (items.text ++ codes "]}")))));
      after = items.after;
    }

-- up to three offers: first how many, then these
unfoldable pub offers : ℕ → Drawn
offers state = several offer false (drawn 4 state) (next_state state)

-- the source of a document by its number
unfoldable pub source : ℕ → ℕ → Drawn
source document state =
    record {
      text = codes "{\"name\":\"item " ++ (decimal document ++ (codes "\",\"offers\":[" ++ ((offers state).text ++ codes "]}")));
      after = (offers state).after;
    }
