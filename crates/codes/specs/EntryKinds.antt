-- What a ledger entry tells of.
--   Underrun    the sink wanted frames and none was waiting
--   SinkStop    the sink stopped
--   Overrun     frames came and there was no room for them
--   Prepared    frames that waited or were unread were thrown away by prepare
--   Dropped     the same by drop
--   kind_number k    the number of the kind k, as callers see it
--   kind_name k      what a report says of it
-- Assumes nothing.
use Rattle.std.specs.Prelude.{ℕ, List, codes}
use Rattle.codes.specs.declared.entry_kind.EntryKind.{EntryKind}
use Rattle.codes.specs.declared.entry_kind.EntryKind.TheVariants.{Underrun, SinkStop, Overrun, Prepared, Dropped}

abbrev pub kind_number : EntryKind → ℕ
kind_number Underrun = 1
kind_number SinkStop = 2
kind_number Overrun = 3
kind_number Prepared = 4
kind_number Dropped = 5

abbrev pub kind_name : EntryKind → List ℕ
kind_name Underrun = codes "underrun"
kind_name SinkStop = codes "sink stop"
kind_name Overrun = codes "overrun"
kind_name Prepared = codes "thrown away by prepare"
kind_name Dropped = codes "thrown away by drop"
