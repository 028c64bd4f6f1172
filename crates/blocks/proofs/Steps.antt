-- The step of the loop that reads headers.
use Rattle.std.proofs.Common.{◌≡◌, ℕ, ◌+◌, ◌<◌, List, ◌++◌, map, length, get_or, take, drop, set, sym, ap, ◌∙◌, arith}
use Rattle.std.proofs.lemmas.List.{append_assoc, length-map, length-take-le, take_more, drop_more, set_at, map_push}

-- what is made of the element at place i is put after what is made of those before it
pub put_made : {X Y : Type 0} (f : X → Y) (xs : List X) (ys : List Y) (i : ℕ) (d : X) → i < length xs → i < length ys
    → set (map f (take i xs) ++ drop i ys) i (f (get_or xs i d)) ≡ map f (take (i + 1) xs) ++ drop (i + 1) ys
put_made f xs ys i d l m =
    let front = map f (take i xs) in
    let e = length-map (take i xs) f ∙ length-take-le i xs (omega arith) in
    let more = ap (map f) (take_more xs i d l) ∙ map_push f (take i xs) (get_or xs i d) in
    ap (λ zs. set (front ++ zs) i (f (get_or xs i d))) (drop_more ys i (f d) m) ∙
    (set_at front _ (drop (i + 1) ys) _ i e ∙
    (sym (append_assoc front _ (drop (i + 1) ys)) ∙ ap (λ zs. zs ++ drop (i + 1) ys) (sym more)))
