-- What a tick leaves as it was. Assumes nothing.
use Rattle.std.proofs.Common.{◌≡◌, ℕ, ◌+◌, ◌%◌, ◌<◌, ◌≤◌, not, eqb, List, [], ◌∷◌, length, get_or, refl, ap, inl, inr, arith}
use Rattle.std.proofs.lemmas.List.{length-take}
use Rattle.codes.specs.declared.refusal.Refusal.TheVariants as refusal
use Rattle.frames.specs.declared.frame.Frame.{Frame}
use Rattle.frames.specs.Samples.{silence}
use Rattle.sinks.specs.Sink.{SinkPoints}
use Rattle.sources.specs.Source.{SourcePoints}
use Rattle.calls.specs.Answers.{Answer}
use Rattle.calls.specs.declared.call.Given.TheVariants.{Own, Another}
use Rattle.calls.specs.declared.call.PlaybackCall.{PlaybackCall}
use Rattle.calls.specs.declared.call.PlaybackCall.TheVariants as p_call
use Rattle.calls.specs.declared.call.CaptureCall.{CaptureCall}
use Rattle.calls.specs.declared.call.CaptureCall.TheVariants as c_call
use Rattle.calls.specs.declared.entry.Entry.{Entry}
use Rattle.calls.specs.declared.verdict.CallKind.TheVariants as call
use Rattle.account.specs.Capture.{decides, kept, no_moving}
use Rattle.account.specs.CaptureBook.{Book, room}
use Rattle.account.specs.PlaybackHistory as play
use Rattle.account.specs.CaptureHistory as capt
use Rattle.account.specs.Rules.{◌⇒◌}
use Rattle.account.specs.States.{moves}
use Rattle.account.proofs.Framing.{stored_apart}
use Rattle.account.proofs.Refusals.{cases_if, holds_after}

-- playback: the whole frame memory
module _ {S : Type 0} (p : SinkPoints S) (t u : play.Situation S) (r : Answer) where
  pub tick_leaves_memory : (c : PlaybackCall) → play.Step p t c r u → play.kind_of c ≡ call.Tick → u.memory ≡ t.memory
  tick_leaves_memory (p_call.Begin wanted) step tick = cc
  tick_leaves_memory (p_call.Put g l j fs) step tick = cc
  tick_leaves_memory (p_call.Mix g l j fs) step tick = cc
  tick_leaves_memory (p_call.Commit l n) step tick = cc
  tick_leaves_memory p_call.Start step tick = cc
  tick_leaves_memory (p_call.Tick Own Own k) step tick = step.1
  tick_leaves_memory (p_call.Tick Own Another k) step tick = ap (λ x. x.memory) step.1
  tick_leaves_memory (p_call.Tick Another g k) step tick = ap (λ x. x.memory) step.1
  tick_leaves_memory p_call.Pause step tick = cc
  tick_leaves_memory p_call.Resume step tick = cc
  tick_leaves_memory p_call.Drain step tick = cc
  tick_leaves_memory (p_call.Drop g) step tick = cc
  tick_leaves_memory (p_call.Prepare g) step tick = cc
  tick_leaves_memory (p_call.Take g) step tick = cc

-- capture: each frame that was unread
module _ {R : Type 0} (p : SourcePoints R) (t u : capt.Situation R) (r : Answer) (sized : 0 < t.stream.geometry.buffer) (fits : t.stream.unread ≤ t.stream.geometry.buffer) (n : ℕ) (low : t.stream.oldest ≤ n) (below : n < t.stream.oldest + t.stream.unread) where
  -- the frame at the place of n is as it was, in what a tick changes
  abbrev Left : Book × R × List Frame × List Entry → Type 0
  Left x = get_or x.2 (n % x.0.geometry.buffer) silence ≡ capt.frame_at t n

  pub tick_leaves_unread : (c : CaptureCall) → capt.Step p t c r u → capt.kind_of c ≡ call.Tick → capt.frame_at u n ≡ capt.frame_at t n
  tick_leaves_unread (c_call.Begin wanted) step tick = cc
  tick_leaves_unread (c_call.Copy g l j x m) step tick = cc
  tick_leaves_unread (c_call.Commit l m) step tick = cc
  tick_leaves_unread c_call.Start step tick = cc
  tick_leaves_unread (c_call.Tick Own Own k) step tick =
      let b = t.stream in
      holds_after Left (not (eqb (length t.memory) b.geometry.buffer) ⇒ refusal.Memory ∷ not (eqb (length t.ledger) b.geometry.ledger) ⇒ refusal.Memory ∷ []) r step.0 refl
      (λ _ on. elim (cases_if (moves (decides b call.Tick)) on) [
        | inl moving ↦
            holds_after Left (no_moving b k) r moving.1 refl
            (λ _ done. rw (done.stream, done.memory) (stored_apart b.geometry.buffer n (b.oldest + b.unread) t.memory (kept b done.came) sized below (omega (arith, length-take (room b) done.came))))
        | inr still ↦ ap (λ x. get_or x.2 (n % x.0.geometry.buffer) silence) still.1.same
      ])
  tick_leaves_unread (c_call.Tick Own Another k) step tick = ap (λ x. capt.frame_at x n) step.1
  tick_leaves_unread (c_call.Tick Another g k) step tick = ap (λ x. capt.frame_at x n) step.1
  tick_leaves_unread c_call.Pause step tick = cc
  tick_leaves_unread c_call.Resume step tick = cc
  tick_leaves_unread c_call.Drain step tick = cc
  tick_leaves_unread (c_call.Drop g) step tick = cc
  tick_leaves_unread (c_call.Prepare g) step tick = cc
  tick_leaves_unread (c_call.Take g) step tick = cc
