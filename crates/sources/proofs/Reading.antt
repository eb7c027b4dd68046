-- Frames read from bytes one by one. Assumes nothing.
use Rattle.std.proofs.Common.{◌≡◌, ℕ, ◌*◌, ◌/◌, ◌<◌, ◌≤◌, List, [], ◌∷◌, length, drop, refl, ap, ◌∙◌, arith}
use Rattle.std.proofs.lemmas.List.{length-drop}
use Rattle.frames.specs.Layout.{frames_of}
use Rattle.sources.specs.Bytes.{BytesStay}

-- fewer than four bytes make no frame
frames_none : (bs : List ℕ) → length bs < 4 → frames_of bs ≡ []
frames_none [] h = refl
frames_none (a ∷ []) h = refl
frames_none (a ∷ b ∷ []) h = refl
frames_none (a ∷ b ∷ c ∷ []) h = refl
frames_none (a ∷ b ∷ c ∷ d ∷ bs) h = absurd (omega arith)

-- no whole frame is left
pub read_all : (m : List ℕ) (n : ℕ) → length m / 4 ≤ n → frames_of (drop (4 * n) m) ≡ []
read_all m n h = frames_none (drop (4 * n) m) (simp length-drop (omega arith))

-- a get leaves the memory as it was, so many gets do
pub bytes_stay : BytesStay
bytes_stay s t [] e = (ap (λ x. x.memory) e, ap (λ x. x.next) e ∙ omega arith)
bytes_stay s t (f ∷ fs) g =
    let rest = bytes_stay g.0 t fs g.2 in
    let one = g.1.1 in
    (rest.0 ∙ one.0, omega (arith, rest.1, one.1))
