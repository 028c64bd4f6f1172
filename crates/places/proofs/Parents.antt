-- The answer of the one place that is asked.
use Rattle.std.proofs.Common.{◌≡◌, ℕ, List, Option, sym, subst}
use Rattle.fields.specs.Places.{index}
use Rattle.fields.specs.declared.place.Place.{Place}
use Rattle.finders.specs.Finding.{parent_label}
use Rattle.places.specs.Kinds.{Kind, kind_at}
use Rattle.places.specs.Each.{each}

pub asked :
    (A B C D E : Kind) (a : List A.Pattern) (b : List B.Pattern) (c : List C.Pattern) (d : List D.Pattern) (e : List E.Pattern) (l : ℕ) {r : Option ℕ}
    {w : Place} (v : Place) → w ≡ v →
    r ≡ parent_label (kind_at A B C D E (index v)).nest (each (λ i. List (kind_at A B C D E i).Pattern) a b c d (λ _. e) (index v)) l →
    r ≡ parent_label (kind_at A B C D E (index w)).nest (each (λ i. List (kind_at A B C D E i).Pattern) a b c d (λ _. e) (index w)) l
asked A B C D E a b c d e l {r} v p h =
    subst (λ (w : Place). r ≡ parent_label (kind_at A B C D E (index w)).nest (each (λ i. List (kind_at A B C D E i).Pattern) a b c d (λ _. e) (index w)) l) (sym p) h
