-- Frames by their numbers.
--   numbers n k       the numbers from n on, k of them
--   times n ns        how often n stands in a list
--   lies n es         in how many entries frame n lies: its number is at least first and below first + lost
--   Rises ns          each number is above those before it
--   RiseFrom low es top   the stretches that the entries lost, in order, begin at or after low and after the end of the one
--                     before, and end at or before top; entries that lost nothing are passed over
-- Assumes nothing.
use Rattle.std.specs.Prelude.{ℕ, zero, suc, ◌+◌, ◌<◌, ◌≤◌, Bool, true, false, ◌&&◌, List, [], ◌∷◌, length, ◌==◌, nat_le, nat_lt, slice_index}
use Rattle.calls.specs.declared.entry.Entry.{Entry}
use Rattle.account.specs.Rules.{If}

abbrev pub numbers : ℕ → ℕ → List ℕ
numbers n zero = []
numbers n (suc k) = n ∷ numbers (suc n) k

abbrev pub bit : Bool → ℕ
bit true = 1
bit false = 0

abbrev pub times : ℕ → List ℕ → ℕ
times n [] = 0
times n (m ∷ ms) = bit (n == m) + times n ms

abbrev pub lies : ℕ → List Entry → ℕ
lies n [] = 0
lies n (e ∷ es) = bit (nat_le e.first n && nat_lt n (e.first + e.lost)) + lies n es

abbrev pub Rises : List ℕ → Type 0
Rises ns = (i j : ℕ) → i < j → j < length ns → slice_index ns i < slice_index ns j

abbrev pub RiseFrom : ℕ → List Entry → ℕ → Type 0
RiseFrom low [] top = low ≤ top
RiseFrom low (e ∷ es) top = If (e.lost == 0) (RiseFrom low es top) ((low ≤ e.first) × RiseFrom (e.first + e.lost) es top)
