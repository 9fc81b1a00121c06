-- The text of rows and tallies, line by line.
use Rattle.std.specs.Prelude.{ℕ, List, [], ◌∷◌, ◌++◌, Bool, true, false, codes, decimal}
use Rattle.std.specs.List.{flat_map}
use Rattle.std.specs.Fmt.{signed_decimal}
use Rattle.serde_json.specs.Data.{string}
use Rattle.serde_json.specs.Written.{compact_text}
use Rattle.ic_row.specs.declared.value.Value.{Value}
use Rattle.ic_row.specs.declared.value.Value.TheVariants.{Null, Int, Wide, Chars}
use Rattle.gd_sim.specs.declared.tally.Tally.{Tally}

-- a number in decimal, and a text in quotes with the escapes of JSON
abbrev pub value_text : Value → List ℕ
value_text Null = codes "null"
value_text (Int n) = signed_decimal n
value_text (Wide n) = signed_decimal n
value_text (Chars text) = compact_text (string text)

-- the values in brackets, with commas between, and a line feed
abbrev pub row_text : List Value → List ℕ
row_text [] = codes "[]\n"
row_text (first ∷ values) = codes "[" ++ value_text first ++ flat_map (λ value. codes "," ++ value_text value) values ++ codes "]\n"

abbrev pub end_text : Bool → List ℕ
end_text true = codes "whole"
end_text false = codes "stopped"

-- query, motion, sending and receiving segment
unfoldable pub tally_ends : Tally → List ℕ
tally_ends t = codes "# " ++ decimal t.key.query ++ codes " " ++ decimal t.key.motion ++ codes " " ++ signed_decimal t.key.from ++ codes " " ++ signed_decimal t.key.to

-- rows sent, rows taken, packets and copies
unfoldable pub tally_counts : Tally → List ℕ
tally_counts t = codes " " ++ decimal t.sent ++ codes " " ++ decimal t.taken ++ codes " " ++ decimal t.packets ++ codes " " ++ decimal t.resent ++ codes " "

-- `# query motion from to sent taken packets resent end`
abbrev pub tally_text : Tally → List ℕ
tally_text t = tally_ends t ++ tally_counts t ++ end_text t.whole ++ codes "\n"
