-- Frames that ended, wait or lie in an entry: what each step of a stream does to their counts.
use Rattle.std.proofs.Common.{◌≡◌, ℕ, ◌+◌, ◌-◌, ◌<◌, ◌≤◌, List, [], ◌∷◌, ◌++◌, refl, inl, inr, arith}
use Rattle.std.proofs.lemmas.Bool.Decides.{nat_tests}
use Rattle.std.proofs.lemmas.Bool.{cases_lt}
use Rattle.account.specs.Numbers.{numbers, times, lies}
use Rattle.calls.specs.declared.entry.Entry.{Entry}
use Rattle.account.proofs.Stretches.{times_append, lies_append, times_before, times_inside, times_after}

-- frames before `from`, and from `upto` up to `total`, went or lie in one entry; no other frame does
pub record Booked (from upto total : ℕ) (went : List ℕ) (es : List Entry) : Type 0 where
  pub before : (n : ℕ) → n < from → times n went + lies n es ≡ 1
  pub waiting : (n : ℕ) → from ≤ n → n < upto → times n went + lies n es ≡ 0
  pub missing : (n : ℕ) → upto ≤ n → n < total → times n went + lies n es ≡ 1
  pub later : (n : ℕ) → total ≤ n → times n went + lies n es ≡ 0

pub booked_none : Booked 0 0 0 [] []
booked_none = record { before = λ n a. absurd (omega arith); waiting = λ n a b. refl; missing = λ n a b. absurd (omega arith); later = λ n a. refl }

module _ {f t : ℕ} {went : List ℕ} {es : List Entry} where
  -- k more frames wait
  pub booked_more : Booked f t t went es → (k : ℕ) → Booked f (t + k) (t + k) went es
  booked_more b k =
      record {
        before = b.before;
        waiting = λ n a c. elim (cases_lt n t) [ inl l ↦ b.waiting n a l | inr g ↦ b.later n g ];
        missing = λ n a c. absurd (omega arith);
        later = λ n a. b.later n (omega arith);
      }

  -- the first k of those that wait go
  pub booked_go : {u : ℕ} → Booked f u t went es → (k : ℕ) → f + k ≤ u → u ≤ t → Booked (f + k) u t (went ++ numbers f k) es
  booked_go b k room top =
      record {
        before = λ n a. rw (times_append n went (numbers f k)) (elim (cases_lt n f) [
          | inl l ↦ omega (arith, b.before n l, times_before n f k l)
          | inr g ↦ omega (arith, b.waiting n g (omega arith), times_inside n f k g a)
        ]);
        waiting = λ n a c. rw (times_append n went (numbers f k)) (omega (arith, b.waiting n (omega arith) c, times_after n f k a));
        missing = λ n a c. rw (times_append n went (numbers f k)) (omega (arith, b.missing n a c, times_after n f k (omega arith)));
        later = λ n a. rw (times_append n went (numbers f k)) (omega (arith, b.later n a, times_after n f k (omega arith)));
      }

  -- all that wait are lost
  pub booked_lose : {u : ℕ} → Booked f u t went es → f ≤ u → u ≤ t → (e : Entry) → e.first ≡ f → e.lost ≡ u - f → Booked t t t went (es ++ (e ∷ []))
  booked_lose {u} b low top e is-first is_lost =
      record {
        before = λ n a. rw (lies_append n es (e ∷ [])) (elim (cases_lt n f) [
          | inl l ↦ let z = b.before n l in grind (arith, nat_tests)
          | inr g ↦ elim (cases_lt n u) [ inl l ↦ let z = b.waiting n g l in grind (arith, nat_tests) | inr h ↦ let z = b.missing n h a in grind (arith, nat_tests) ]
        ]);
        waiting = λ n a c. absurd (omega arith);
        missing = λ n a c. absurd (omega arith);
        later = λ n a. rw (lies_append n es (e ∷ [])) (let z = b.later n a in grind (arith, nat_tests));
      }

  -- k frames are lost before they could wait
  pub booked_miss : Booked f t t went es → f ≤ t → (k : ℕ) (e : Entry) → e.first ≡ t → e.lost ≡ k → Booked f t (t + k) went (es ++ (e ∷ []))
  booked_miss b low k e is-first is_lost =
      record {
        before = λ n a. rw (lies_append n es (e ∷ [])) (let z = b.before n a in grind (arith, nat_tests));
        waiting = λ n a c. rw (lies_append n es (e ∷ [])) (let z = b.waiting n a c in grind (arith, nat_tests));
        missing = λ n a c. rw (lies_append n es (e ∷ [])) (let z = b.later n a in grind (arith, nat_tests));
        later = λ n a. rw (lies_append n es (e ∷ [])) (let z = b.later n (omega arith) in grind (arith, nat_tests));
      }

  -- so each frame waits, went or lies in an entry once
  pub booked_once : {u : ℕ} → Booked f u t went es → f ≤ u → (n : ℕ) → n < t → (times n (numbers f (u - f)) + times n went) + lies n es ≡ 1
  booked_once {u} b low n top =
      elim (cases_lt n f) [
        | inl l ↦ omega (arith, b.before n l, times_before n f (u - f) l)
        | inr g ↦ elim (cases_lt n u) [
          | inl l ↦ omega (arith, b.waiting n g l, times_inside n f (u - f) g (omega arith))
          | inr h ↦ omega (arith, b.missing n h top, times_after n f (u - f) (omega arith))
        ]
      ]

  -- an entry that lost nothing changes no count
  pub booked_none_lost : {u : ℕ} → Booked f u t went es → (e : Entry) → e.lost ≡ 0 → Booked f u t went (es ++ (e ∷ []))
  booked_none_lost b e none =
      let same : (n : ℕ) → lies n (es ++ (e ∷ [])) ≡ lies n es = λ n. rw (lies_append n es (e ∷ [])) (grind (arith, nat_tests)) in
      record {
        before = λ n a. rw (same n) (b.before n a);
        waiting = λ n a c. rw (same n) (b.waiting n a c);
        missing = λ n a c. rw (same n) (b.missing n a c);
        later = λ n a. rw (same n) (b.later n a);
      }

  -- and no other does
  pub booked_no_other : {u : ℕ} → Booked f u t went es → f ≤ u → u ≤ t → (n : ℕ) → t ≤ n → (times n (numbers f (u - f)) + times n went) + lies n es ≡ 0
  booked_no_other {u} b low top n past = omega (arith, b.later n past, times_after n f (u - f) (omega arith))

  -- where none waits, what is left out between was booked before
  pub booked_empty : {u : ℕ} → Booked f u t went es → u ≡ f → Booked t t t went es
  booked_empty b none =
      record {
        before = λ n a. elim (cases_lt n f) [ inl l ↦ b.before n l | inr g ↦ b.missing n (omega arith) a ];
        waiting = λ n a c. absurd (omega arith);
        missing = λ n a c. absurd (omega arith);
        later = b.later;
      }
