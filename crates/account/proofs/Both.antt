-- The history of two streams is a history of each. Assumes nothing.
use Rattle.std.proofs.Common.{[], ◌∷◌, refl, ap}
use Rattle.sinks.specs.Making.{Lawful}
use Rattle.sinks.specs.Sink.{SinkPoints}
use Rattle.sources.specs.Source.{SourcePoints}
use Rattle.calls.specs.Answers.{Answer}
use Rattle.calls.specs.declared.call.Call.{Call}
use Rattle.calls.specs.declared.call.Call.TheVariants.{Playback, Capture}
use Rattle.account.specs.Histories.{Leads}
use Rattle.account.specs.PlaybackHistory as play
use Rattle.account.specs.CaptureHistory as capt
use Rattle.account.specs.Promise.{Table, Step, Past, playback_then, of_playback, capture_then, of_capture, SetUp, Account}
use Rattle.account.proofs.PlaybackProof.{playback_accounted}
use Rattle.account.proofs.CaptureProof.{capture_accounted}

module _ {S R : Type 0} (p : SinkPoints S) (q : SourcePoints R) (start : Table S R) where
  playback_on : (past : play.Past S) (t u : Table S R) (c : Call) (r : Answer) → Leads (play.Step p) start.playback past t.playback → Step p q t c r u → Leads (play.Step p) start.playback (playback_then past t c r u) u.playback
  playback_on past t u (Playback c) r led step = (led, step.0, refl)
  playback_on past t u (Capture c) r led step = rw step.1 led

  playback_leads : (h : Past S R) (end : Table S R) → Leads (Step p q) start h end → Leads (play.Step p) start.playback (of_playback h) end.playback
  playback_leads [] end led = ap (λ x. x.playback) led
  playback_leads (m ∷ past) end led = rw led.2 (playback_on (of_playback past) m.before m.after m.call m.answer (playback_leads past m.before led.0) led.1)

  capture_on : (past : capt.Past R) (t u : Table S R) (c : Call) (r : Answer) → Leads (capt.Step q) start.capture past t.capture → Step p q t c r u → Leads (capt.Step q) start.capture (capture_then past t c r u) u.capture
  capture_on past t u (Playback c) r led step = rw step.1 led
  capture_on past t u (Capture c) r led step = (led, step.0, refl)

  capture_leads : (h : Past S R) (end : Table S R) → Leads (Step p q) start h end → Leads (capt.Step q) start.capture (of_capture h) end.capture
  capture_leads [] end led = ap (λ x. x.capture) led
  capture_leads (m ∷ past) end led = rw led.2 (capture_on (of_capture past) m.before m.after m.call m.answer (capture_leads past m.before led.0) led.1)

  pub accounted : ((s : S) → Lawful (p.makes s)) → (h : Past S R) (end : Table S R) → SetUp start → Leads (Step p q) start h end → Account p q start h end
  accounted law h end up led =
      record {
        playback = playback_accounted p law start.playback (of_playback h) end.playback (record { fresh_stream = up.playback_fresh; whole = up.playback_memory; ledger_whole = up.playback_ledger }) (playback_leads h end led);
        capture = capture_accounted q start.capture (of_capture h) end.capture (record { fresh_stream = up.capture_fresh; whole = up.capture_memory; ledger_whole = up.capture_ledger }) (capture_leads h end led);
      }
