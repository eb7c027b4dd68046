-- Worked figures: what the definitions that the contracts cite give for small numbers.
--   mono n      a frame with the sample n in both channels
--   FiveWait b  the stream runs and five frames wait
--   Figures     the figures, each named by what it shows
-- Assumes nothing.
use Rattle.std.specs.Prelude.{◌≡◌, ℕ, [], ◌∷◌, map, pos, negsuc, Some, None}
use Rattle.codes.specs.declared.entry_kind.EntryKind.TheVariants.{Underrun}
use Rattle.codes.specs.declared.state.State.TheVariants.{Running, Xrun}
use Rattle.frames.specs.declared.frame.Frame.{Frame}
use Rattle.frames.specs.Samples.{gained_sample}
use Rattle.frames.specs.Filter.{filtered}
use Rattle.frames.specs.Keep.{kept}
use Rattle.geometry.specs.Boundary.{boundary_for}
use Rattle.geometry.specs.Pointers.{playback_avail, capture_avail, area_length}
use Rattle.sinks.specs.declared.stop.Stop.{Stop}
use Rattle.sinks.specs.Keeps.{keep_allowance}
use Rattle.account.specs.Playback.{after_tick, tick_entry}
use Rattle.account.specs.PlaybackBook.{Book, waits}

abbrev pub mono : ℕ → Frame
mono n = record { left = pos n; right = pos n }

abbrev pub FiveWait : Book → Type 0
FiveWait b = (b.state ≡ Running) × (waits b ≡ 5)

pub record Figures : Type 0 where
  pub boundary_of_8 : boundary_for 8 ≡ 1073741824
  pub boundary_of_6 : boundary_for 6 ≡ 1610612736
  pub playback_avail_across_the_boundary : playback_avail 8 (boundary_for 8) 1073741820 2 ≡ 2
  pub capture_avail_across_the_boundary : capture_avail (boundary_for 8) 1 1073741822 ≡ 3
  pub area_up_to_the_end_of_the_ring : area_length 8 9 6 5 ≡ 3
  pub half_of_1_rounds_down : gained_sample 128 (pos 1) ≡ pos 0
  pub half_of_minus_1_rounds_down : gained_sample 128 (negsuc 0) ≡ negsuc 0
  pub mean_of_two : filtered (pos 16384 ∷ pos 16384 ∷ []) [] [] (mono 100 ∷ mono 101 ∷ []) ≡ mono 50 ∷ mono 101 ∷ []
  pub every_third : kept 3 0 (map mono (1 ∷ 2 ∷ 3 ∷ 4 ∷ 5 ∷ 6 ∷ 7 ∷ [])) ≡ map mono (1 ∷ 4 ∷ 7 ∷ [])
  pub every_third_allows : keep_allowance 2 3 2 ≡ 8
  pub a_tick_of_4_runs_on : (b : Book) (w : Stop) → FiveWait b → (after_tick b 4 4 ≡ Running) × (tick_entry b 4 4 w ≡ None)
  pub a_tick_of_5_is_an_underrun_that_missed_none : (b : Book) (w : Stop) → FiveWait b → (after_tick b 5 5 ≡ Xrun) × (tick_entry b 5 5 w ≡ Some (record { kind = Underrun; first = b.committed; lost = 0; missed = 0; cause = 0; depth = 0 }))
