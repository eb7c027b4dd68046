-- Frames fed in several goes. Assumes nothing.
use Rattle.std.proofs.Common.{ℕ, ◌+◌, ◌-◌, ◌≤◌, List, length, take, drop, Some, None, Option, sym, ap, subst, arith, take-add}
use Rattle.std.proofs.lemmas.List.{length-drop, take_rest}
use Rattle.frames.specs.declared.frame.Frame.{Frame}
use Rattle.sinks.specs.declared.feed.Fed.{Fed}
use Rattle.sinks.specs.declared.stop.Stop.{Stop}
use Rattle.sinks.specs.Feeds.{Feeds, Stopped}
use Rattle.sinks.specs.Making.{Lawful}
use Rattle.sinks.specs.Sink.{SinkPoints, Took}
use Rattle.sinks.proofs.Chains.{took_join}

module _ {S : Type 0} (p : SinkPoints S) (law : (s : S) → Lawful (p.makes s)) where
  within : (taken all : ℕ) (w : Option Stop) (t : S) → Stopped p taken all w t → taken ≤ all
  within taken all None t h = omega arith
  within taken all (Some w) t h = omega (arith, h.0)

  -- what was taken before and now, together
  pub fed_on : (s u t : S) (i : ℕ) (fs : List Frame) (r : Fed) → i ≤ length fs → Took p s (take i fs) u → Feeds p u (take (length fs - i) (drop i fs)) r t
      → (i + r.taken ≤ length fs) × Took p s (take (i + r.taken) fs) t
  fed_on s u t i fs r h k f =
      let rest = take_rest fs i in
      let n : r.taken ≤ length fs - i = omega (arith, within r.taken _ r.stop t f.stopped, ap length rest, length-drop i fs) in
      let now : Took p u (take r.taken (drop i fs)) t = subst (λ (xs : List Frame). Took p u (take r.taken xs) t) rest f.took in
      (omega arith, subst (λ (xs : List Frame). Took p s xs t) (sym (take-add i r.taken fs)) (took_join p law s u t (take i fs) (take r.taken (drop i fs)) k now))
