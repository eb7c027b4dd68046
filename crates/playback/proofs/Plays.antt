-- Frames offered one by one from a ring.
use Rattle.std.proofs.Common.{◌≡◌, ℕ, ◌+◌, ◌<◌, ◌≤◌, List, [], ◌∷◌, ◌++◌, length, take, Some, None, sym, ap, ◌∙◌, subst, inl, inr, arith}
use Rattle.std.proofs.lemmas.Bool.{cases_lt}
use Rattle.std.proofs.lemmas.List.{take_more}
use Rattle.frames.specs.declared.frame.Frame.{Frame}
use Rattle.ring.specs.declared.span.Span.{Span}
use Rattle.ring.specs.Spans.{holds}
use Rattle.ring.specs.Rings.{Fits, ReadsAt}
use Rattle.ring.proofs.Holding.{held_places}
use Rattle.sinks.specs.declared.stop.Stop.{Stop}
use Rattle.sinks.specs.Sink.{SinkPoints, Offered, Offers, TurnedAway}
use Rattle.sinks.proofs.Chains.{offers_push}
use Rattle.playback.specs.Playing.{Plays}

pub length_holds : {T : Type 0} (s : Span) (m : List T) → Fits s m → length (holds s m) ≡ s.count
length_holds s m fits = (held_places s.size s.oldest s.count m fits s.within.0 s.within.1).0

module _ {S : Type 0} (p : SinkPoints S) where
  pub offers_more : (s t u : S) (span : Span) (m : List Frame) (went : ℕ) (f : Frame) → ReadsAt (Some f) span m went
      → Offers p s (take went (holds span m)) t → Offered p t f u → Offers p s (take (went + 1) (holds span m)) u
  offers_more s t u span m went f read offers last =
      let fs : List Frame = holds span m in
      let long = length_holds span m read.0 in
      let more : take (went + 1) fs ≡ take went fs ++ f ∷ [] = take_more fs went f (omega (arith, long, read.1)) ∙ ap (λ x. take went fs ++ x ∷ []) (sym read.2) in
      subst (λ (z : List Frame). Offers p s z u) (sym more) (offers_push p s t u (take went fs) f offers last)

  -- none was left
  pub plays_all : (s t : S) (span : Span) (m : List Frame) (k went : ℕ) → Fits span m → went ≤ k → went ≤ span.count → ReadsAt None span m went
      → Offers p s (take went (holds span m)) t → Plays p s (holds span m) k (record { went = went; stop = None }) t
  plays_all s t span m k went fits asked there none offers =
      let long = length_holds span m fits in
      record { asked = asked; there = omega (arith, long, there); offered = offers; ended = λ less. elim (cases_lt went span.count) [ inl h ↦ absurd (none fits h) | inr h ↦ omega (arith, long, there, h) ] }

  -- as many as were asked for went
  pub plays_asked : (s t : S) (span : Span) (m : List Frame) (k went : ℕ) → Fits span m → went ≤ k → k ≤ went → went ≤ span.count
      → Offers p s (take went (holds span m)) t → Plays p s (holds span m) k (record { went = went; stop = None }) t
  plays_asked s t span m k went fits asked most there offers =
      let long = length_holds span m fits in
      record { asked = asked; there = omega (arith, long, there); offered = offers; ended = λ less. absurd (omega (arith, most, less)) }

  -- the sink stopped
  pub plays_stopped : (s t u : S) (span : Span) (m : List Frame) (k went : ℕ) (f : Frame) (w : Stop) → Fits span m → went < k → ReadsAt (Some f) span m went
      → Offers p s (take went (holds span m)) t → TurnedAway p t w u → Plays p s (holds span m) k (record { went = went; stop = Some w }) u
  plays_stopped s t u span m k went f w fits asked read offers away =
      let long = length_holds span m fits in
      record {
        asked = omega (arith, asked);
        there = omega (arith, long, read.1);
        offered = subst (λ (z : S). Offers p s (take went (holds span m)) z) (sym away.same) offers;
        ended = (asked, omega (arith, long, read.1), ap p.allowance away.same ∙ away.exhausted, away.reason ∙ ap p.stop (sym away.same));
      }
