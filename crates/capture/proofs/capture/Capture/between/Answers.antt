use Rattle.std.proofs.Common.{◌≡◌, ℕ, ◌+◌, sym, subst, rules}
use Rattle.geometry.specs.Pointers.{capture_avail, pointer_of}
use Rattle.geometry.proofs.Wrapping.{captured_unread}
use Rattle.capture.proofs.capture.Capture.between.Goals as goal

pub returns : goal.returns
returns c =
    let s = c.args.self.now in
    let unread = captured_unread s.geometry.buffer s.oldest s.unread s.geometry.lawful.0 s.ordered.1 in
    let by_counts : capture_avail s.geometry.boundary (pointer_of s.geometry.boundary (s.oldest + s.unread)) (pointer_of s.geometry.boundary s.oldest) ≡ s.unread =
    subst (λ (b : ℕ). capture_avail b (pointer_of b (s.oldest + s.unread)) (pointer_of b s.oldest) ≡ s.unread) (sym s.geometry.doubled) unread in
    search (rules, by_counts)
