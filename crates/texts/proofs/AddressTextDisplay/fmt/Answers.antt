use Rattle.std.proofs.Common.{◌≡◌, ℕ, ◌/◌, ◌%◌, ◌^◌, ◌<◌, [], ◌∷◌, ap, ◌∙◌, mod-eq_of_lt, refl, arith, rules}
use Rattle.std.proofs.lemmas.List.{append_assoc}
use Rattle.std.proofs.Output.{has_written_of_eq}
use Rattle.std.specs.Net.Addr.{IsIpv4OfBits}
use Rattle.std.specs.Net.Text.{ipv4_text}
use Rattle.texts.proofs.AddressTextDisplay.fmt.Goals as goal

pub returns-clause-writes : goal.returns-clause-writes
unfolding IsIpv4OfBits
returns-clause-writes g c p k =
    let n = c.args.self.now.0 in
    let low : n < 2 ^ 32 = search rules in
    let first : n / 2 ^ 24 % 256 ≡ n / 2 ^ 24 = mod-eq_of_lt (omega arith) in
    let text = ap (λ (x : ℕ). ipv4_text (x ∷ n / 2 ^ 16 % 256 ∷ n / 2 ^ 8 % 256 ∷ n % 256 ∷ [])) first in
    has_written_of_eq _ _ _ _ _ (ap ipv4_text c.address_of-address.ensures ∙ text ∙ simp append_assoc refl) (c.write.ensures.writes p k)
