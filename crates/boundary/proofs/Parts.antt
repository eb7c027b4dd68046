-- Bytes copied into a part of a slice are written over it from the part's place on. Assumes nothing.
use Rattle.std.proofs.Common.{◌≡◌, ℕ, ◌+◌, ◌≤◌, List, [], ◌∷◌, length, take, drop, set, sym, refl, ap, ◌∙◌, append_assoc, add-one}
use Rattle.std.proofs.lemmas.List.Edits.{sets, sets-eq, paste_all}
use Rattle.std.proofs.lemmas.Slice.{put_mid-paste}
use borrow.Rule.Slice.PartMut.{put_mid}
use Rattle.sinks.specs.Tapes.{written}

written_sets : (m : List ℕ) (p : ℕ) (bs : List ℕ) → written m p bs ≡ sets m p bs
written_sets m p [] = refl
written_sets m p (b ∷ bs) = written_sets (set m p b) (p + 1) bs ∙ ap (λ (q : ℕ). sets (set m p b) q bs) (add-one p)

pub written_part : (m : List ℕ) (p k : ℕ) (bs part : List ℕ) → part ≡ bs → length bs ≡ k → p + length bs ≤ length m → put_mid p k m part ≡ written m p bs
written_part m p k bs part copied all room =
    put_mid-paste p k m part bs (length bs) copied all refl
    ∙ paste_all m p bs (length bs) refl
    ∙ sym (append_assoc (take p m) bs (drop (p + length bs) m))
    ∙ sym (sets-eq bs m p room)
    ∙ sym (written_sets m p bs)
