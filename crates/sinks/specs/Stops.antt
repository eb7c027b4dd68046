-- Why a sink stops.
--   passed_up w   the stop w, seen from one layer further up: the same cause, one more depth, of at most 255
--   full         the stop of a tape
--   fault        the stop of a fault layer at its mark
-- Assumes nothing.
use Rattle.std.specs.Prelude.{◌+◌, min}
use Rattle.codes.specs.Causes.{cause_full, cause_fault}
use Rattle.sinks.specs.declared.stop.Stop.{Stop}

abbrev pub passed_up : Stop → Stop
passed_up w = record { cause = w.cause; depth = min (w.depth + 1) 255 }

abbrev pub full : Stop
full = record { cause = cause_full; depth = 0 }

abbrev pub fault : Stop
fault = record { cause = cause_fault; depth = 0 }
