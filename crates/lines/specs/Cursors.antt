-- What becomes of a cursor.
use Rattle.std.specs.Prelude.{◌≡◌, ℕ, ◌+◌, ◌-◌, ◌^◌, ◌≤◌, min, List, length}
use Rattle.octets.specs.Output.{put_at}
use Rattle.lines.specs.declared.cursor.Cursor.{Cursor}

-- bytes were counted, and written where they fit
pub record Put (before : Cursor) (bytes : List ℕ) (after : Cursor) : Type 0 where
  pub same_reference : after.out.ghost_name ≡ before.out.ghost_name
  pub same_length : length after.out.now ≡ length before.out.now
  pub count : after.count ≡ min (2 ^ 64 - 1) (before.count + length bytes)
  pub next : before.count + length bytes ≤ length before.out.now → after.count ≡ before.count + length bytes
  pub out : before.count + length bytes ≤ length before.out.now → after.out.now ≡ put_at before.count bytes before.out.now
