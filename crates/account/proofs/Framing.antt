-- The frames of a stream in its ring: those before `from` went or are lost, those up to `upto` wait, those up to `total` are lost.
-- Assumes nothing.
use Rattle.std.proofs.Common.{◌≡◌, ℕ, zero, suc, ◌+◌, ◌-◌, ◌%◌, ◌<◌, ◌≤◌, List, [], ◌∷◌, ◌++◌, map, length, get_or, take, drop, set, sym, refl, ap, ◌∙◌, mod-lt, arith}
use native.Mathlib.Nat.{mod-add-mod}
use Rattle.std.proofs.lemmas.List.{length-append, length-drop, length-set, get_or-set_other, append_assoc, append-nil, take_all, take-append-le, drop-append-le, drop-drop, drop-take, take-take}
use Rattle.frames.specs.declared.frame.Frame.{Frame}
use Rattle.frames.specs.Samples.{silence}
use Rattle.ring.specs.Held.{held}
use Rattle.ring.proofs.Holding.{held_free, held_more, held_set, held_area}
use Rattle.account.specs.Capture.{stored}
use Rattle.calls.specs.declared.entry.Entry.{Entry}
use Rattle.account.specs.Numbers.{numbers}
use Rattle.account.proofs.Stretches.{numbers_split, take_numbers, drop_numbers, place_of, places_differ, frames_numbered}
use Rattle.account.proofs.Rising.{Ordered, ordered_none, ordered_later, ordered_go}
use Rattle.account.proofs.Booking.{Booked, booked_none, booked_more, booked_go, booked_lose, booked_miss, booked_none_lost, booked_empty}

-- the frames numbered from one number up to another
abbrev pub stretch : ℕ → ℕ → List Frame → List Frame
stretch from upto fs = take (upto - from) (drop from fs)

stretch_more : (f t n : ℕ) (fs more : List Frame) → f ≤ t → length fs ≡ t → length more ≡ n → stretch f (t + n) (fs ++ more) ≡ stretch f t fs ++ more
stretch_more f t n fs more low long new =
    let rest : length (drop f fs) ≡ t - f = length-drop f fs ∙ omega arith in
    let all : length (drop f fs ++ more) ≤ (t + n) - f = omega (arith, length-append (drop f fs) more) in
    ap (take ((t + n) - f)) (drop-append-le f fs more (omega arith))
    ∙ take_all ((t + n) - f) (drop f fs ++ more) all
    ∙ ap (λ xs. xs ++ more) (sym (take_all (t - f) (drop f fs) (omega arith)))

stretch_go : (f u n : ℕ) (fs : List Frame) → n ≤ u - f → drop n (stretch f u fs) ≡ stretch (f + n) u fs
stretch_go f u n fs there =
    let split : u - f ≡ n + (u - (f + n)) = omega arith in
    ap (λ k. drop n (take k (drop f fs))) split ∙ drop-take n (u - (f + n)) (drop f fs) ∙ ap (take (u - (f + n))) (drop-drop n f fs)

stretch_same : (f u : ℕ) (fs more : List Frame) → u ≤ length fs → f ≤ u → stretch f u (fs ++ more) ≡ stretch f u fs
stretch_same f u fs more top low =
    ap (take (u - f)) (drop-append-le f fs more (omega arith)) ∙ take-append-le (u - f) (drop f fs) more (omega (arith, length-drop f fs))

pub record Framed (s from upto total : ℕ) (m : List Frame) (es : List Entry) (fs : List Frame) (ws went : List ℕ) : Type 0 where
  pub sized : 0 < s
  pub whole : length m ≡ s
  pub low : from ≤ upto
  pub top : upto ≤ total
  pub fits : upto ≤ from + s
  pub count : length fs ≡ total
  pub waits_are : ws ≡ numbers from (upto - from)
  pub lie : held (from % s) (upto - from) m ≡ stretch from upto fs
  pub booked : Booked from upto total went es
  pub ordered : Ordered from went

pub framed_none : (s : ℕ) (m : List Frame) → 0 < s → length m ≡ s → Framed s 0 0 0 m [] [] [] []
framed_none s m sized whole =
    record { sized = sized; whole = whole; low = omega arith; top = omega arith; fits = omega arith; count = refl; waits_are = refl; lie = refl; booked = booked_none; ordered = ordered_none }

module _ {s f t : ℕ} {m : List Frame} {es : List Entry} {fs : List Frame} {ws went : List ℕ} where
  -- a write to places where no frame waits
  pub framed_write : {u : ℕ} → Framed s f u t m es fs ws went → (m' : List Frame) → length m' ≡ s → held (f % s) (u - f) m' ≡ held (f % s) (u - f) m → Framed s f u t m' es fs ws went
  framed_write k m' whole same =
      record { sized = k.sized; whole = whole; low = k.low; top = k.top; fits = k.fits; count = k.count; waits_are = k.waits_are; lie = same ∙ k.lie; booked = k.booked; ordered = k.ordered }

  -- an entry that lost nothing
  pub framed_note : {u : ℕ} → Framed s f u t m es fs ws went → (e : Entry) → e.lost ≡ 0 → Framed s f u t m (es ++ (e ∷ [])) fs ws went
  framed_note k e none =
      record { sized = k.sized; whole = k.whole; low = k.low; top = k.top; fits = k.fits; count = k.count; waits_are = k.waits_are; lie = k.lie; booked = booked_none_lost k.booked e none; ordered = k.ordered }

  -- n more frames wait
  pub framed_more : Framed s f t t m es fs ws went → (n : ℕ) (m' more : List Frame) → length more ≡ n → length m' ≡ s → t + n ≤ f + s
      → held (f % s) ((t - f) + n) m' ≡ held (f % s) (t - f) m ++ more
      → Framed s f (t + n) (t + n) m' es (fs ++ more) (ws ++ numbers (length fs) n) went
  framed_more k n m' more long whole room joined =
      let all : (t - f) + n ≡ (t + n) - f = omega (arith, k.low) in
      record {
        sized = k.sized;
        whole = whole;
        low = omega (arith, k.low);
        top = omega arith;
        fits = room;
        count = length-append fs more ∙ omega (arith, k.count);
        waits_are =
            let next : length fs ≡ f + (t - f) = omega (arith, k.count, k.low) in
            ap (λ x. x ++ numbers (length fs) n) k.waits_are
            ∙ ap (λ x. numbers f (t - f) ++ numbers x n) next
            ∙ numbers_split f (t - f) n
            ∙ ap (numbers f) all;
        lie = ap (λ x. held (f % s) x m') (sym all) ∙ joined ∙ ap (λ xs. xs ++ more) k.lie ∙ sym (stretch_more f t n fs more k.low k.count long);
        booked = booked_more k.booked n;
        ordered = k.ordered;
      }

  -- n frames that stand behind those that wait are taken in as they stand
  pub framed_taken_in : Framed s f t t m es fs ws went → (n : ℕ) (more : List Frame) → length more ≡ n → more ≡ held (t % s) n m → t + n ≤ f + s
      → Framed s f (t + n) (t + n) m es (fs ++ more) (ws ++ numbers (length fs) n) went
  framed_taken_in k n more long there room =
      let at : (f % s + (t - f)) % s ≡ t % s = mod-add-mod f s (t - f) ∙ ap (λ x. x % s) (omega (arith, k.low)) in
      framed_more k n m more long k.whole room
      (held_more s (f % s) (t - f) n m k.whole (mod-lt f k.sized) (omega (arith, k.low)) ∙ ap (λ x. held (f % s) (t - f) m ++ held x n m) at ∙ ap (λ xs. held (f % s) (t - f) m ++ xs) (sym there))

  -- the oldest n of those that wait go
  pub framed_go : {u : ℕ} → Framed s f u t m es fs ws went → (n : ℕ) → n ≤ u - f → Framed s (f + n) u t m es fs (drop n ws) (went ++ take n ws)
  framed_go {u} k n there =
      let gone : take n ws ≡ numbers f n = ap (take n) k.waits_are ∙ take_numbers f n (u - f) there in
      let left : (u - f) - n ≡ u - (f + n) = omega arith in
      record {
        sized = k.sized;
        whole = k.whole;
        low = omega (arith, k.low);
        top = k.top;
        fits = omega (arith, k.fits);
        count = k.count;
        waits_are = ap (drop n) k.waits_are ∙ drop_numbers f n (u - f) there ∙ ap (numbers (f + n)) left;
        lie =
            ap (λ x. held x (u - (f + n)) m) (sym (mod-add-mod f s n))
            ∙ ap (λ x. held ((f % s + n) % s) x m) (sym left)
            ∙ held_free s (f % s) (u - f) n m k.whole (mod-lt f k.sized) (omega (arith, k.fits)) there
            ∙ ap (drop n) k.lie
            ∙ stretch_go f u n fs there;
        booked = rw gone (booked_go k.booked n (omega (arith, k.low)) k.top);
        ordered = rw gone (ordered_go k.ordered n);
      }

  -- all that wait are lost
  pub framed_lose : {u : ℕ} → Framed s f u t m es fs ws went → (e : Entry) → e.first ≡ f → e.lost ≡ u - f → Framed s t t t m (es ++ (e ∷ [])) fs [] went
  framed_lose k e is-first is_lost =
      let none : t - t ≡ 0 = omega arith in
      record {
        sized = k.sized;
        whole = k.whole;
        low = omega arith;
        top = omega arith;
        fits = omega arith;
        count = k.count;
        waits_are = ap (numbers t) (sym none);
        lie = ap (λ x. held (t % s) x m) none ∙ sym (ap (λ x. take x (drop t fs)) none);
        booked = booked_lose k.booked k.low k.top e is-first is_lost;
        ordered = ordered_later k.ordered (omega (arith, k.low, k.top));
      }

  -- none waits, and all was booked before
  pub framed_empty : {u : ℕ} → Framed s f u t m es fs ws went → u ≡ f → Framed s t t t m es fs [] went
  framed_empty k e =
      let none : t - t ≡ 0 = omega arith in
      record {
        sized = k.sized;
        whole = k.whole;
        low = omega arith;
        top = omega arith;
        fits = omega arith;
        count = k.count;
        waits_are = ap (numbers t) (sym none);
        lie = ap (λ x. held (t % s) x m) none ∙ sym (ap (λ x. take x (drop t fs)) none);
        booked = booked_empty k.booked e;
        ordered = ordered_later k.ordered (omega (arith, k.low, k.top));
      }

  -- more frames came and are lost before they could wait
  pub framed_miss : Framed s f t t m es fs ws went → (n : ℕ) (more : List Frame) → length more ≡ n → (e : Entry) → e.first ≡ t → e.lost ≡ n → Framed s f t (t + n) m (es ++ (e ∷ [])) (fs ++ more) ws went
  framed_miss k n more long e is-first is_lost =
      record {
        sized = k.sized;
        whole = k.whole;
        low = k.low;
        top = omega arith;
        fits = k.fits;
        count = length-append fs more ∙ omega (arith, k.count);
        waits_are = k.waits_are;
        lie = k.lie ∙ sym (stretch_same f t fs more (omega (arith, k.count)) k.low);
        booked = booked_miss k.booked k.low n e is-first is_lost;
        ordered = k.ordered;
      }

-- frames stored behind those held join them
pub stored_held : (s o c n : ℕ) (m fs : List Frame) → length m ≡ s → o < s → c + length fs ≤ s → n % s ≡ (o + c) % s → held o (c + length fs) (stored s m n fs) ≡ held o c m ++ fs
stored_held s o c n m [] whole inside room at = ap (λ x. held o x m) (omega arith) ∙ sym (append-nil (held o c m))
stored_held s o c n m (f ∷ fs) whole inside room at =
    let m1 = set m (n % s) f in
    let next : suc n % s ≡ (o + (c + 1)) % s =
    ap (λ x. x % s) (omega arith) ∙ sym (mod-add-mod n s 1) ∙ ap (λ x. (x + 1) % s) at ∙ mod-add-mod (o + c) s 1 ∙ ap (λ x. x % s) (omega arith) in
    let more : c + suc (length fs) ≡ (c + 1) + length fs = omega arith in
    ap (λ x. held o x (stored s m1 (suc n) fs)) more
    ∙ stored_held s o (c + 1) (suc n) m1 fs (length-set m (n % s) f ∙ whole) inside (omega arith) next
    ∙ ap (λ x. held o (c + 1) (set m x f) ++ fs) at
    ∙ ap (λ xs. xs ++ fs) (held_set s o c m f whole inside (omega arith))
    ∙ append_assoc (held o c m) (f ∷ []) fs

-- and leave those less than a ring before them as they are
pub stored_apart : (s n x : ℕ) (m fs : List Frame) → 0 < s → n < x → x + length fs ≤ n + s → get_or (stored s m x fs) (n % s) silence ≡ get_or m (n % s) silence
stored_apart s n x m [] sized before room = refl
stored_apart s n x m (f ∷ fs) sized before room =
    stored_apart s n (suc x) (set m (x % s) f) fs sized (omega arith) (omega arith) ∙ get_or-set_other m (x % s) (n % s) f silence (places_differ s n x sized before (omega arith))

pub length_stored : (s : ℕ) (m : List Frame) (n : ℕ) (fs : List Frame) → length (stored s m n fs) ≡ length m
length_stored s m n [] = refl
length_stored s m n (f ∷ fs) = length_stored s (set m (n % s) f) (suc n) fs ∙ length-set m (n % s) f

module _ {s f u t : ℕ} {m : List Frame} {es : List Entry} {fs : List Frame} {ws went : List ℕ} (k : Framed s f u t m es fs ws went) where
  -- the frames of an area over those that wait, from position j on
  pub area_frames : (place j n : ℕ) → place ≡ f % s → (f + j) + n ≤ u → (place + j) + n ≤ s → take n (drop (place + j) m) ≡ map (λ x. get_or fs x silence) (numbers (f + j) n)
  area_frames place j zero at inside room = refl
  area_frames place j (suc n) at inside room =
      let here : (f + j) % s ≡ place + j = place_of s f j (omega (arith, at)) ∙ omega (arith, at) in
      let left : suc n ≤ u - (f + j) = omega arith in
      let k' = framed_go k j (omega arith) in
      sym (held_area (place + j) (suc n) m (omega (arith, k.whole)))
      ∙ ap (λ x. held x (suc n) m) (sym here)
      ∙ sym (take-take (suc n) (u - (f + j)) (drop ((f + j) % s) m ++ take ((f + j) % s) m) left)
      ∙ ap (take (suc n)) k'.lie
      ∙ take-take (suc n) (u - (f + j)) (drop (f + j) fs) left
      ∙ frames_numbered fs (f + j) (suc n) (omega (arith, k.count, k.top))
