use Rattle.sheets.proofs.Stops.{stops_first}
use Rattle.sheetlaws.proofs.stops_first.Goals as goal

pub returns : goal.returns
returns c = stops_first
