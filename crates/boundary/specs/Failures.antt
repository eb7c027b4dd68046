-- How a script ends other than by its last call, and which pile it plays onto.
--   failure_number f    the status that tells of the failure f
--   shape_number s      the number of the shape s in a script
-- Assumes nothing.
use Rattle.std.specs.Prelude.{ℕ}
use Rattle.codes.specs.Refusals.{refusal_number}
use Rattle.boundary.specs.declared.failure.Failure.{Failure}
use Rattle.boundary.specs.declared.failure.Failure.TheVariants.{Refused, NotDecoded, NoRoom, NoMemory}
use Rattle.boundary.specs.declared.shape.Shape.{Shape}
use Rattle.boundary.specs.declared.shape.Shape.TheVariants as shapes

abbrev pub failure_number : Failure → ℕ
failure_number (Refused why) = refusal_number why
failure_number NotDecoded = 100
failure_number NoRoom = 101
failure_number NoMemory = 102

abbrev pub shape_number : Shape → ℕ
shape_number shapes.Bytes = 0
shape_number shapes.Frames = 1
shape_number shapes.FaultBytes = 2
shape_number shapes.GainFaultFrames = 3
shape_number shapes.FilterGainFaultBytes = 4
shape_number shapes.KeepFilterGainFaultBytes = 5
shape_number shapes.FaultKeepBytes = 6
shape_number shapes.GainKeepFilterFrames = 7
