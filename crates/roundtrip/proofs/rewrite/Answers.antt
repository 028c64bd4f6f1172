use Rattle.std.proofs.Common.{◌≤◌, length, rules}
use Rattle.sheets.proofs.Verdicts.{taken}
use Rattle.roundtrip.proofs.rewrite.Goals as goal

pub slice_bounds-write_sheet-end : goal.slice_bounds-write_sheet-end
slice_bounds-write_sheet-end c =
    let t = taken _ _ _ _ c.in_ok-count.ensures.answer c.in_ok-count.ensures.list in
    let h : c.in_ok-count.count ≤ length c.read_sheet.new.rules = t.within in
    search rules
