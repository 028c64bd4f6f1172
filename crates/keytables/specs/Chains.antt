-- Rows that hang in chains, the newest of a chain first. A link is 0, or one more than the place of a row.
use Rattle.std.specs.Prelude.{◌≡◌, ℕ, zero, suc, ◌-◌, ◌<◌, ◌≤◌, Bool, true, cond, Some, None, Option}

-- an optional place as a link
abbrev pub link_of : Option ℕ → ℕ
link_of None = 0
link_of (Some i) = suc i

-- the last of the first n rows that passes the test
unfoldable pub latest : (ℕ → Bool) → ℕ → Option ℕ
latest test zero = None
latest test (suc n) = cond (test n) (Some n) (latest test n)

-- x links to the last of the first n rows that hang in the chain b
pub record Top (chain : ℕ → ℕ) (n b x : ℕ) : Type 0 where
  pub low : x ≤ n
  pub hangs : 0 < x → chain (x - 1) ≡ b
  pub last : (j : ℕ) → j < n → chain j ≡ b → j < x

-- each chain's head links to its last row, and each row to the one before it
pub record Chained (chain head link : ℕ → ℕ) (n : ℕ) : Type 0 where
  pub tops : (b : ℕ) → Top chain n b (head b)
  pub below : (i : ℕ) → i < n → Top chain i (chain i) (link i)

-- on the way down the chain b: every row that passes the test is still ahead
pub record Way (chain : ℕ → ℕ) (n b : ℕ) (test : ℕ → Bool) (x : ℕ) : Type 0 where
  pub low : x ≤ n
  pub hangs : 0 < x → chain (x - 1) ≡ b
  pub ahead : (j : ℕ) → j < n → test j ≡ true → j < x
