-- How rules and faults are written for people, as bytes of text.
use Rattle.std.specs.Prelude.{ℕ, ◌/◌, ◌%◌, ◌^◌, cond, List, [], ◌∷◌, ◌++◌, codes, decimal, ◌==◌}
use Rattle.std.specs.List.{flat_map}
use Rattle.texts.specs.declared.notation.Notation.{Notation}
use Rattle.texts.specs.declared.notation.Notation.TheVariants.{Dotted, Plain}
use Rattle.sheets.specs.declared.row.PatternRow.{PatternRow}
use Rattle.sheets.specs.declared.row.RuleRow.{RuleRow}
use Rattle.sheets.specs.declared.fault.Layer.{Layer}
use Rattle.sheets.specs.declared.fault.Layer.TheVariants.{Word, Rule, Sheet}

-- the four bytes of an address, as in 10.0.0.0
abbrev pub address_text : ℕ → List ℕ
address_text n =
    decimal (n / 2 ^ 24) ++ (codes "." ++ (decimal (n / 2 ^ 16 % 256) ++ (codes "." ++ (decimal (n / 2 ^ 8 % 256) ++ (codes "." ++ decimal (n % 256))))))

-- an address's number is dotted, a port's and a protocol's is plain
abbrev pub number_text : Notation → ℕ → List ℕ
number_text Dotted n = address_text n
number_text Plain n = decimal n

-- a pattern is its number, a slash and its length, as in 10.0.0.0/8 and 5004/16; the whole pattern is a star
abbrev pub pattern_text : Notation → PatternRow → List ℕ
pattern_text t p = cond (p.length.bits == 0) (codes "*") (number_text t p.number ++ (codes "/" ++ decimal p.length.bits))

-- a rule is its number, a colon, and its five patterns: both addresses, both ports, the protocol
abbrev pub rule_text : RuleRow → List ℕ
rule_text r =
    decimal r.number ++ (codes ": " ++ (pattern_text Dotted r.addresses.source ++ (codes " " ++
    (pattern_text Dotted r.addresses.destination ++ (codes " " ++ (pattern_text Plain r.ports.source ++ (codes " " ++
    (pattern_text Plain r.ports.destination ++ (codes " " ++ pattern_text Plain r.protocol)))))))))

abbrev pub layer_text : Layer → List ℕ
layer_text Word = codes "word"
layer_text Rule = codes "rule"
layer_text Sheet = codes "sheet"

-- a refused sheet: the refusal's number, the word's place and the layer
abbrev pub fault_text : ℕ → ℕ → Layer → List ℕ
fault_text n i l = codes "refused " ++ (decimal n ++ (codes " at word " ++ (decimal i ++ (codes ", layer " ++ layer_text l))))

-- text with the end of its line
abbrev pub line : List ℕ → List ℕ
line text = text ++ (10 ∷ [])

-- a line for each rule
abbrev pub rules_lines : List RuleRow → List ℕ
rules_lines rs = flat_map (λ r. line (rule_text r)) rs
