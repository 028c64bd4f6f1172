-- The lines that a listing of headers is made of, as bytes of text.
use Rattle.std.specs.Prelude.{ℕ, List, [], ◌∷◌, ◌++◌, length, drop, Some, None, codes, decimal, Option, nat_lt}
use Rattle.std.specs.List.{flat_map}
use Rattle.fields.specs.Refusals.{first}

-- numbers with single spaces between them, or a dash where there is none
abbrev pub spaced : List ℕ → List ℕ
spaced [] = codes "-"
spaced (n ∷ ns) = decimal n ++ flat_map (λ m. codes " " ++ decimal m) ns

-- the line of a header: its index, the rules that match it, and how many subsets were hits, as in `0: 1 2 3 4 / 4`
abbrev pub header_line : ℕ → List ℕ → ℕ → List ℕ
header_line index rules hits = decimal index ++ (codes ": " ++ (spaced rules ++ (codes " / " ++ (decimal hits ++ (10 ∷ [])))))

-- the line of a refusal, as in `refused 10`
abbrev pub refusal_line : ℕ → List ℕ
refusal_line n = codes "refused " ++ (decimal n ++ (10 ∷ []))

-- ---- a line is written to an output of some bytes
abbrev pub write_refusal : List ℕ → ℕ → Option ℕ
write_refusal line places = first (record { fails = nat_lt places (length line); refuses = 9 } ∷ [])

-- what the output holds then
abbrev pub written : Option ℕ → List ℕ → List ℕ → List ℕ
written (Some n) line out = out
written None line out = line ++ drop (length line) out
