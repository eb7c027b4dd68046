-- A copy as it was given is a step of the capture stream. Assumes nothing.
use lib.Seq.{paste}
use Rattle.std.proofs.lemmas.Bool.{ne_eqb}
use Rattle.calls.specs.Checks.{IsGiven}
use Rattle.account.specs.Areas.{area}
use Rattle.account.proofs.Copying.{put_back}
use Rattle.std.proofs.Common.{◌≡◌, ℕ, ◌<◌, not, eqb, true, length, ◌∙◌, sym, List, refl, ap}
use Rattle.frames.specs.declared.frame.Frame.{Frame}
use Rattle.sources.specs.Source.{SourcePoints}
use Rattle.calls.specs.Answers.{Answer}
use Rattle.calls.specs.declared.call.Given.{Given}
use Rattle.calls.specs.declared.call.Given.TheVariants.{Own, Another}
use Rattle.calls.specs.declared.call.CaptureCall.TheVariants.{Copy}
use Rattle.calls.specs.declared.entry.Entry.{Entry}
use Rattle.calls.specs.declared.lease_parts.LeaseParts.{LeaseParts}
use Rattle.account.specs.CaptureBook.{Book}
use Rattle.account.specs.CaptureHistory.{Situation, Step}
use Rattle.capture.specs.Copies.{CopiesAsGiven, CopiesInto}

pub copy_step : {R : Type 0} (p : SourcePoints R) (g : Given) (b : Book) (source : R) (m : List Frame) (es : List Entry) (host host' : List Frame) (l : LeaseParts) (j x n : ℕ) (r : Answer) → CopiesAsGiven g b m l j host x n r host'
    → Step p (record { stream = b; source = source; memory = m; ledger = es; host = host }) (Copy g l j x n) r (record { stream = b; source = source; memory = m; ledger = es; host = host' })
copy_step p Own b source m es host host' l j x n r went = (went.0, went.1, record { host_after = went.2; stream_same = refl; source_same = refl; memory_same = refl; ledger_same = refl })
copy_step {R} p Another b source m es host host' l j x n r went = (went.0, ap (λ (h : List Frame). let t : Situation R = record { stream = b; source = source; memory = m; ledger = es; host = h } in t) went.1)

-- a copy from the memory that the call is given
pub copied_as_given : (g : Given) (b : Book) (own m : List Frame) (l : LeaseParts) (j : ℕ) (host host' : List Frame) (x n : ℕ) (r : Answer) (told : ℕ) → told ≡ b.geometry.buffer → 0 < told
    → IsGiven g own told m → CopiesInto b m l j host x n r host' → CopiesAsGiven g b own l j host x n r host'
copied_as_given Own b own m l j host host' x n r told same some given went = rw (sym given) went
copied_as_given Another b own m l j host host' x n r told same some given went =
    let other : not (eqb (length m) b.geometry.buffer) ≡ true = rw (ne_eqb (length m) b.geometry.buffer (λ e. given some (e ∙ sym same))) in
    let refused = rw other at went.1 in
    (refused.0, went.2 ∙ ap (λ part. paste host x part (length (area host x n))) refused.1 ∙ put_back host x n)
