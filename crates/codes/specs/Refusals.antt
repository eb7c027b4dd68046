-- Why a call was refused.
--   Geometry          the geometry is outside its rules
--   Layer             no taps or above 32, a keep factor outside 1 to 8, marks above 16 or not strictly rising
--   Memory            the frame memory or the ledger memory has another length
--   State             the call is not for this state
--   Xrun              the same, where the state is XRUN
--   Zero              begin of 0 frames
--   Unavailable       nothing is available at begin
--   NothingWaiting    start of a playback with nothing waiting
--   LeaseOut          begin or drain while a lease is out
--   WrongLease        a lease that is not equal in all four parts to the one out
--   Beyond            position plus count, or the commit, is beyond the lease's length
--   LedgerFull        the ledger has no place for another entry
--   Limit             a count would pass its limit
--   refusal_number r    the number of the refusal r, as callers see it
--   refusal_name r      what a report says of it
-- Assumes nothing.
use Rattle.std.specs.Prelude.{ℕ, List, codes}
use Rattle.codes.specs.declared.refusal.Refusal.{Refusal}
use Rattle.codes.specs.declared.refusal.Refusal.TheVariants.{Geometry, Layer, Memory, State, Xrun, Zero, Unavailable, NothingWaiting, LeaseOut, WrongLease, Beyond, LedgerFull, Limit}

abbrev pub refusal_number : Refusal → ℕ
refusal_number Geometry = 1
refusal_number Layer = 2
refusal_number Memory = 3
refusal_number State = 4
refusal_number Xrun = 5
refusal_number Zero = 6
refusal_number Unavailable = 7
refusal_number NothingWaiting = 8
refusal_number LeaseOut = 9
refusal_number WrongLease = 10
refusal_number Beyond = 11
refusal_number LedgerFull = 12
refusal_number Limit = 13

abbrev pub refusal_name : Refusal → List ℕ
refusal_name Geometry = codes "the geometry breaks its rules"
refusal_name Layer = codes "a layer's numbers are outside their limits"
refusal_name Memory = codes "the memory has another length"
refusal_name State = codes "the call is not for this state"
refusal_name Xrun = codes "the stream is in XRUN"
refusal_name Zero = codes "begin of 0 frames"
refusal_name Unavailable = codes "nothing is available"
refusal_name NothingWaiting = codes "nothing is waiting to be played"
refusal_name LeaseOut = codes "a lease is out"
refusal_name WrongLease = codes "not the lease that is out"
refusal_name Beyond = codes "beyond the lease's length"
refusal_name LedgerFull = codes "the ledger is full"
refusal_name Limit = codes "a count would pass its limit"
