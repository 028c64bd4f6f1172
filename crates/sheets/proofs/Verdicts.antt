-- What the answer of a reader, and the list that it leaves, tell of the sheet.
use Rattle.std.proofs.Common.{◌≡◌, ℕ, ◌≤◌, List, length, take, drop, Ok, Err, sym, ap, ◌∙◌, arith}
use Rattle.std.proofs.lemmas.List.{length-append, take_at}
use Rattle.fields.specs.Refusals.{code}
use Rattle.sheets.specs.Reading.{Verdict, accepted, refused, Answers, listed}
use Rattle.sheets.specs.declared.row.RuleRow.{RuleRow}
use Rattle.sheets.specs.declared.fault.Fault.{Fault}

-- the first n rules of the list are those of the sheet
pub record Taken (v : Verdict) (n : ℕ) (list : List RuleRow) : Type 0 where
  pub within : n ≤ length list
  pub rules : v ≡ accepted (take n list)

pub taken : (v : Verdict) (n : ℕ) (before after : List RuleRow) → Answers v (Ok n) → after ≡ listed v before → Taken v n after
taken (accepted rs) n before after a l =
    let e : n ≡ length rs = cc in
    record {
      within = omega (arith, ap length l ∙ length-append rs (drop (length rs) before));
      rules = ap accepted (sym (ap (take n) l ∙ take_at rs (drop (length rs) before) n (sym e)));
    }
taken (refused k i y) n before after (f, e, _, _, _) l = absurd (cc)

pub faulted : (v : Verdict) (f : Fault) → Answers v (Err f) → v ≡ refused (code f.refusal) f.place f.layer
faulted (accepted rs) f a = absurd (cc)
faulted (refused n i l) f (g, e, a, b, d) = let h : f ≡ g = cc in cc
