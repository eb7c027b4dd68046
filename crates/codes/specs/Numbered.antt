-- Words that have numbers, and numbers read back.
--   Numbered number n r    r is the word whose number is n; or, where no word has it, the error that holds n
--   Undone number          whoever reads the number of a word back gets that word
-- Assumes nothing.
use Rattle.std.specs.Prelude.{◌≡◌, ℕ, Result, Ok, Err, ◌≢◌}
use Rattle.codes.specs.declared.unknown_number.UnknownNumber.{UnknownNumber}

abbrev pub Numbered : {W : Type 0} → (W → ℕ) → ℕ → Result W UnknownNumber → Type 0
Numbered number n (Ok w) = number w ≡ n
Numbered {W} number n (Err e) = ((w : W) → number w ≢ n) × (e.0 ≡ n)

abbrev pub Undone : {W : Type 0} → (W → ℕ) → Type 0
Undone {W} number = (w : W) (r : Result W UnknownNumber) → Numbered number (number w) r → r ≡ Ok w
