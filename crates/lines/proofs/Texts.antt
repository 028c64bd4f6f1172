-- The texts that a line is made of.
use Rattle.std.proofs.Common.{◌≡◌, ℕ, ◌+◌, ◌<◌, ◌≤◌, false, eqb, List, [], ◌∷◌, ◌++◌, length, codes, decimal, refl, arith}
use Rattle.std.specs.List.{flat_map}
use Rattle.std.proofs.lemmas.Bool.{false≢true}
use Rattle.std.proofs.lemmas.List.{length-append}
use Rattle.lines.specs.Lines.{header_line, spaced}

-- a number, with a space before it
abbrev pub after_space : ℕ → List ℕ
after_space n = codes " " ++ decimal n

-- where there are rules, a space stands before each
pub spaced_some : (ns : List ℕ) → false ≡ eqb (length ns) 0 → codes " " ++ spaced ns ≡ flat_map after_space ns
spaced_some [] h = absurd (false≢true h)
spaced_some (n ∷ ns) h = refl

-- a space for each rule
spaces : (ns : List ℕ) → length ns ≤ length (flat_map after_space ns)
spaces [] = omega arith
spaces (n ∷ ns) = omega (arith, spaces ns, length-append (after_space n) (flat_map after_space ns), length-append (codes " ") (decimal n))

spaced_length : (ns : List ℕ) → length ns ≤ length (spaced ns) + 1
spaced_length [] = omega arith
spaced_length (n ∷ ns) = omega (arith, spaces ns, length-append (decimal n) (flat_map after_space ns))

-- a line has more bytes than rules
pub longer : (index : ℕ) (rules : List ℕ) (hits : ℕ) → length rules < length (header_line index rules hits)
longer index rules hits =
    let end = codes " / " ++ (decimal hits ++ (10 ∷ [])) in
    omega (arith, spaced_length rules, length-append (decimal index) (codes ": " ++ (spaced rules ++ end)), length-append (codes ": ") (spaced rules ++ end), length-append (spaced rules) end)
