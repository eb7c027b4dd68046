-- The tables of numbers are undone. Assumes nothing.
use Rattle.std.proofs.Common.{◌≡◌, ℕ, [], ◌∷◌, get_or, Ok, Err, sym, refl, ap, ◌∙◌}
use Rattle.codes.specs.Numbered.{Undone}
use Rattle.codes.specs.Refusals.{refusal_number}
use Rattle.codes.specs.States.{state_number}
use Rattle.codes.specs.EntryKinds.{kind_number}
use Rattle.codes.specs.declared.refusal.Refusal.{Refusal}
use Rattle.codes.specs.declared.refusal.Refusal.TheVariants.{Geometry, Layer, Memory, State as NotNow, Xrun as InXrun, Zero, Unavailable, NothingWaiting, LeaseOut, WrongLease, Beyond, LedgerFull, Limit}
use Rattle.codes.specs.declared.state.State.{State}
use Rattle.codes.specs.declared.state.State.TheVariants.{Setup, Prepared, Running, Xrun, Draining, Paused}
use Rattle.codes.specs.declared.entry_kind.EntryKind.{EntryKind}
use Rattle.codes.specs.declared.entry_kind.EntryKind.TheVariants.{Underrun, SinkStop, Overrun, Prepared as ByPrepare, Dropped}

-- a table is undone as soon as some function reads each of its numbers back
undone : {W : Type 0} (number : W → ℕ) (word : ℕ → W) → ((w : W) → word (number w) ≡ w) → Undone number
undone number word back w (Err _) h = absurd (h.0 w refl)
undone number word back w (Ok v) h = ap Ok (sym (back v) ∙ ap word h ∙ back w)

abbrev refusal_at : ℕ → Refusal
refusal_at n = get_or (Limit ∷ Geometry ∷ Layer ∷ Memory ∷ NotNow ∷ InXrun ∷ Zero ∷ Unavailable ∷ NothingWaiting ∷ LeaseOut ∷ WrongLease ∷ Beyond ∷ LedgerFull ∷ []) n Limit

refusal_back : (w : Refusal) → refusal_at (refusal_number w) ≡ w
refusal_back Geometry = refl
refusal_back Layer = refl
refusal_back Memory = refl
refusal_back NotNow = refl
refusal_back InXrun = refl
refusal_back Zero = refl
refusal_back Unavailable = refl
refusal_back NothingWaiting = refl
refusal_back LeaseOut = refl
refusal_back WrongLease = refl
refusal_back Beyond = refl
refusal_back LedgerFull = refl
refusal_back Limit = refl

abbrev state_at : ℕ → State
state_at n = get_or (Paused ∷ Setup ∷ Prepared ∷ Running ∷ Xrun ∷ Draining ∷ []) n Paused

state_back : (w : State) → state_at (state_number w) ≡ w
state_back Setup = refl
state_back Prepared = refl
state_back Running = refl
state_back Xrun = refl
state_back Draining = refl
state_back Paused = refl

abbrev kind_at : ℕ → EntryKind
kind_at n = get_or (Dropped ∷ Underrun ∷ SinkStop ∷ Overrun ∷ ByPrepare ∷ []) n Dropped

kind_back : (w : EntryKind) → kind_at (kind_number w) ≡ w
kind_back Underrun = refl
kind_back SinkStop = refl
kind_back Overrun = refl
kind_back ByPrepare = refl
kind_back Dropped = refl

pub refusals_undone : Undone refusal_number
refusals_undone = undone refusal_number refusal_at refusal_back

pub states_undone : Undone state_number
states_undone = undone state_number state_at state_back

pub kinds_undone : Undone kind_number
kinds_undone = undone kind_number kind_at kind_back
