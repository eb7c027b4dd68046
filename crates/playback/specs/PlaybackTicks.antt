-- The entry that a tick leaves, by what became of its offers.
--   entry_of b k went stop   where the sink stopped, its stop; where no frame waits any more, an underrun unless the
--                            stream drains
-- Assumes nothing.
use Rattle.std.specs.Prelude.{ℕ, cond, [], ◌∷◌, Some, None, Option, ◌==◌}
use Rattle.codes.specs.declared.state.State.TheVariants.{Draining}
use Rattle.sinks.specs.declared.stop.Stop.{Stop}
use Rattle.calls.specs.declared.entry.Entry.{Entry}
use Rattle.account.specs.Playback.{underrun, sink_stop}
use Rattle.account.specs.PlaybackBook.{Book, waits}
use Rattle.account.specs.States.{among}

abbrev pub entry_of : Book → ℕ → ℕ → Option Stop → Option Entry
entry_of b k went None = cond (went == waits b) (cond (among b.state (Draining ∷ [])) None (Some (underrun b k went))) None
entry_of b k went (Some w) = Some (sink_stop b k went w)
