-- Four bytes more on a tape are one frame more. Assumes nothing.
use Rattle.std.proofs.Common.{◌≡◌, ℕ, suc, ◌+◌, ◌-◌, ◌*◌, ◌%◌, ◌≤◌, List, [], ◌∷◌, ◌++◌, length, take, drop, set, sym, refl, ap, ◌∙◌, arith, rules, w16, SFits, length-append}
use Rattle.std.proofs.lemmas.List.{append_assoc, take_more_set, take_at, drop-set-lt, length-set, length-take, length-drop, take-append-drop}
use borrow.Rule.Slice.PartMut.{put_mid, Post-is}
use Rattle.frames.specs.declared.frame.Frame.{Frame}
use Rattle.frames.specs.Layout.{bytes_of, frame_of, frames_of}
use Rattle.sinks.specs.Tapes.{written}

frames_push : (xs : List ℕ) (a b c d : ℕ) → length xs % 4 ≡ 0 → frames_of (xs ++ a ∷ b ∷ c ∷ d ∷ []) ≡ frames_of xs ++ frame_of (a ∷ b ∷ c ∷ d ∷ []) ∷ []
frames_push [] a b c d h = refl
frames_push (p ∷ []) a b c d h = absurd (omega arith)
frames_push (p ∷ q ∷ []) a b c d h = absurd (omega arith)
frames_push (p ∷ q ∷ r ∷ []) a b c d h = absurd (omega arith)
frames_push (p ∷ q ∷ r ∷ s ∷ xs) a b c d h = ap (λ z. frame_of (p ∷ q ∷ r ∷ s ∷ []) ∷ z) (frames_push xs a b c d (omega arith))

-- bytes written one after the other, and at once
written_at_once : (m : List ℕ) (p : ℕ) (bs : List ℕ) → p + length bs ≤ length m → written m p bs ≡ take p m ++ (bs ++ drop (p + length bs) m)
written_at_once m p [] h = let z : p + 0 ≡ p = omega arith in sym (ap (λ (k : ℕ). take p m ++ drop k m) z ∙ take-append-drop p m)
written_at_once m p (b ∷ bs) h =
    let e : p + 1 + length bs ≡ p + suc (length bs) = omega arith in
    written_at_once (set m p b) (p + 1) bs (omega (arith, length-set m p b))
    ∙ ap (λ z. z ++ (bs ++ drop (p + 1 + length bs) (set m p b))) (take_more_set m p b (omega arith))
    ∙ ap (λ z. (take p m ++ b ∷ []) ++ (bs ++ z)) (drop-set-lt (p + 1 + length bs) m p b (omega arith) ∙ ap (λ (k : ℕ). drop k m) e)
    ∙ append_assoc (take p m) (b ∷ []) (bs ++ drop (p + suc (length bs)) m)

length_written : (m : List ℕ) (p : ℕ) (bs : List ℕ) → p + length bs ≤ length m → length (written m p bs) ≡ length m
length_written m p bs h = ap length (written_at_once m p bs h) ∙ simp (length-append, length-take, length-drop) (omega arith)

-- what stands up to the end of what was written
take_written : (m : List ℕ) (p : ℕ) (bs : List ℕ) → p + length bs ≤ length m → take (p + length bs) (written m p bs) ≡ take p m ++ bs
take_written m p bs h =
    ap (take (p + length bs)) (written_at_once m p bs h ∙ sym (append_assoc (take p m) bs (drop (p + length bs) m)))
    ∙ take_at (take p m ++ bs) (drop (p + length bs) m) (p + length bs) (simp (length-append, length-take) (omega arith))

-- four bytes copied into a part of the memory
pub copied : (m r n bs : List ℕ) (len p : ℕ) → r ≡ m → n ≡ bs → len ≡ length m → length bs ≡ 4 → p + 4 ≤ length m
    → take len (put_mid p (p + 4 - p) r n ++ drop (length (put_mid p (p + 4 - p) r n)) m) ≡ written m p bs
copied m r n bs len p er en el four h =
    let whole : put_mid p (p + 4 - p) r n ≡ written m p bs =
    ap (λ z. put_mid p (p + 4 - p) z n) er
    ∙ ap (λ z. put_mid p (p + 4 - p) m z) en
    ∙ ap (λ z. take p m ++ (bs ++ z)) (Post-is p (p + 4) m (omega arith))
    ∙ ap (λ (k : ℕ). take p m ++ (bs ++ drop (p + k) m)) (sym four)
    ∙ sym (written_at_once m p bs (omega arith)) in
    take_at (put_mid p (p + 4 - p) r n) _ len (ap length whole ∙ length_written m p bs (omega arith) ∙ sym el) ∙ whole

-- one frame written after n
pub one_frame_more : (m : List ℕ) (n : ℕ) (f : Frame) → SFits w16 f.left → SFits w16 f.right → 4 * n + 4 ≤ length m
    → frames_of (take (4 * (n + 1)) (written m (4 * n) (bytes_of f))) ≡ frames_of (take (4 * n) m) ++ f ∷ []
one_frame_more m n f fl fr h =
    let e : 4 * (n + 1) ≡ 4 * n + 4 = omega arith in
    let back : frame_of (bytes_of f) ≡ f = search rules in
    let four : length (take (4 * n) m) % 4 ≡ 0 = simp length-take (omega arith) in
    ap frames_of (ap (λ (k : ℕ). take k (written m (4 * n) (bytes_of f))) e ∙ take_written m (4 * n) (bytes_of f) h)
    ∙ frames_push (take (4 * n) m) _ _ _ _ four
    ∙ ap (λ g. frames_of (take (4 * n) m) ++ g ∷ []) back
