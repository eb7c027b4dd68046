-- A copy into a part of the host's memory, as that memory is seen whole.
--   CopiesInto      a copy into the n places of the host's memory from place x on, as far as that memory goes
--   CopiesAsGiven   the same with the stream's own memory, and refused by 3 with memory of another length
-- Assumes nothing.
use Rattle.std.specs.Prelude.{◌≡◌, ℕ, List, length}
use Rattle.std.proofs.Math.Seq.{paste}
use Rattle.codes.specs.declared.refusal.Refusal.TheVariants as refusal
use Rattle.frames.specs.declared.frame.Frame.{Frame}
use Rattle.calls.specs.Answers.{Answer}
use Rattle.calls.specs.declared.call.Given.{Given}
use Rattle.calls.specs.declared.call.Given.TheVariants.{Own, Another}
use Rattle.calls.specs.declared.lease_parts.LeaseParts.{LeaseParts}
use Rattle.account.specs.Areas.{area}
use Rattle.account.specs.Capture.{Copies}
use Rattle.account.specs.CaptureBook.{Book}
use Rattle.account.specs.Rules.{Refuses}

abbrev pub CopiesInto : Book → List Frame → LeaseParts → ℕ → List Frame → ℕ → ℕ → Answer → List Frame → Type 0
CopiesInto b m l j host x n r host' = (part : List Frame) × Copies b m l j (area host x n) r part × (host' ≡ paste host x part (length (area host x n)))

abbrev pub CopiesAsGiven : Given → Book → List Frame → LeaseParts → ℕ → List Frame → ℕ → ℕ → Answer → List Frame → Type 0
CopiesAsGiven Own b m l j host x n r host' = CopiesInto b m l j host x n r host'
CopiesAsGiven Another b m l j host x n r host' = Refuses refusal.Memory r host host'
