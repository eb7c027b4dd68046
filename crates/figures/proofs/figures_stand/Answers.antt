use Rattle.std.proofs.Common.{refl}
use Rattle.geometry.specs.Boundary.{doubled_while, boundary_for}
use Rattle.figures.proofs.figures_stand.Goals as goal

pub returns : goal.returns
unfolding doubled_while boundary_for
returns c =
    record { boundary_of_8 = refl; boundary_of_6 = refl; playback_avail_across_the_boundary = refl; capture_avail_across_the_boundary = refl; area_up_to_the_end_of_the_ring = refl; half_of_1_rounds_down = refl; half_of_minus_1_rounds_down = refl; mean_of_two = refl; every_third = refl; every_third_allows = refl; a_tick_of_4_runs_on = λ b w five. rw (five.1, five.0) (refl, refl); a_tick_of_5_is_an_underrun_that_missed_none = λ b w five. rw (five.1, five.0) (refl, refl) }
