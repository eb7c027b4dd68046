-- Capture: every frame and every lease is accounted for, after any calls since set-up. Assumes nothing.
use Rattle.std.proofs.Common.{◌≡◌, ℕ, ◌+◌, ◌-◌, ◌%◌, ◌<◌, ◌≤◌, true, false, not, eqb, ltb, ◌≢◌, List, [], ◌∷◌, ◌++◌, map, length, get_or, take, drop, is_some, Some, None, Option, sym, refl, ap, ◌∙◌, inl, inr, mod-lt, arith, Ok, Err}
use native.Mathlib.Nat.{mod-add-mod}
use lib.Seq.{paste}
use Rattle.std.proofs.lemmas.Bool.{cases_lt, cases_Bool, leb-false, ltb-false, eqb-true, eqb-false, not-false, lt-ltb, both_ways}
use Rattle.std.proofs.lemmas.List.{map-append, append_assoc, append-nil, length-take, length-drop, length-append, take-append-drop, take_at, nil_from_length}
use Rattle.codes.specs.declared.refusal.Refusal.{Refusal}
use Rattle.codes.specs.declared.refusal.Refusal.TheVariants as refusal
use Rattle.codes.specs.declared.entry_kind.EntryKind.{EntryKind}
use Rattle.codes.specs.declared.entry_kind.EntryKind.TheVariants as kinds
use Rattle.codes.specs.declared.state.State.{State}
use Rattle.codes.specs.declared.state.State.TheVariants.{Setup, Prepared, Running, Xrun, Draining, Paused}
use Rattle.frames.specs.declared.frame.Frame.{Frame}
use Rattle.frames.specs.Samples.{silence}
use Rattle.geometry.proofs.Wrapping.{captured_unread}
use Rattle.ring.specs.Held.{held}
use Rattle.sources.specs.Source.{SourcePoints}
use Rattle.sources.proofs.Chains.{chains_take}
use Rattle.calls.specs.Answers.{Answer}
use Rattle.calls.specs.declared.answer.Outcome.TheVariants.{Done, Granted, Ticked, Taken}
use Rattle.calls.specs.declared.call.Given.TheVariants.{Own, Another}
use Rattle.calls.specs.declared.call.CaptureCall.{CaptureCall}
use Rattle.calls.specs.declared.call.CaptureCall.TheVariants.{Begin, Copy, Commit, Start, Tick, Pause, Resume, Drain, Drop, Prepare, Take}
use Rattle.calls.specs.declared.entry.Entry.{Entry}
use Rattle.calls.specs.declared.lease_parts.LeaseParts.{LeaseParts}
use Rattle.calls.specs.declared.verdict.CallKind.{CallKind}
use Rattle.calls.specs.declared.verdict.CallKind.TheVariants as call
use Rattle.calls.specs.Lending.{holds}
use Rattle.account.specs.Areas.{area, with_out, with_none}
use Rattle.account.specs.Capture.{next_lease, lends, turned, read, loss, emptied, noted_as, kept, lost, filled, stored, Turned, Emptied, Captured, no_begin, no_access, no_emptying, no_moving, decides}
use Rattle.account.specs.CaptureBook.{Book, fresh, room}
use Rattle.account.specs.Ledgers.{entries_of, noted, with_noted, with_taken, oldest_of}
use Rattle.account.specs.Rules.{Refuses, ◌⇒◌, Unless}
use Rattle.account.specs.States.{among, capture_decides, is_refusal, moves, refusing}
use Rattle.account.specs.Entries.{entry_list}
use Rattle.account.specs.Happenings.{nothing, emptied as was_emptied, of_capture_call, ends_lease}
use Rattle.account.specs.Histories.{Leads}
use Rattle.account.specs.Numbers.{numbers, times, lies}
use Rattle.account.specs.CaptureHistory.{Situation, RestSame, Step, Past, left_the_list, given_up, unread, handed_over, frames_handed_over, copied_numbers, frames_copied, answered, entries, deeds}
use Rattle.account.specs.Promise.{CaptureAccount}
use Rattle.account.proofs.Allowed.{among_these}
use Rattle.account.proofs.Booking.{booked_once, booked_no_other}
use Rattle.account.proofs.Framing.{Framed, framed_none, framed_more, framed_go, framed_lose, framed_empty, framed_miss, stored_held, length_stored, area_frames}
use Rattle.account.proofs.Histories.{holds_along, at_each_moment}
use Rattle.account.proofs.LedgerSteps.{LedgerKept, ledger_noted, entries_noted, entries_taken, ledger_taken, further_are}
use Rattle.account.proofs.Lent.{none_out, held_is, Lent, lent_none, lent_grant, lent_back, lent_commit, lent_void, lent_once, Area, further, area_places}
use Rattle.account.proofs.CaptureMeaning.{Means, means_step, no_wrong_state}
use Rattle.account.proofs.Copying.{area_written, put_back}
use Rattle.account.proofs.PlaybackProof.{has_room}
use Rattle.account.proofs.Refusals.{cases_if, refused_or_obeyed}
use Rattle.account.proofs.Stretches.{times_append, times_within, times_inside, times_after, take_numbers, drop_numbers, map_get_or_append, length_numbers}
use Rattle.account.proofs.Stretching.{Throws, Rising, rising_later, rising_missed, rising_thrown}
use Rattle.account.proofs.Ticking.{tick_leaves_unread}

pub made : {R : Type 0} {u : Situation R} {b : Book} {source : R} {m : List Frame} {ledger : List Entry} {host : List Frame} → u.stream ≡ b → u.source ≡ source → u.memory ≡ m → u.ledger ≡ ledger → u.host ≡ host → u ≡ record { stream = b; source = source; memory = m; ledger = ledger; host = host }
made a b c d e = rw (sym a, sym b, sym c, sym d, sym e)

not_in_xrun : (s : State) → s ≢ Xrun → among s (Xrun ∷ []) ≡ false
not_in_xrun s elsewhere =
    elim (cases_Bool (among s (Xrun ∷ []))) [ inl there ↦ absurd (elsewhere (among_these (λ x. x ≡ Xrun) (Xrun ∷ []) (refl, tt) s there)) | inr e ↦ e ]

-- none of these calls is obeyed in XRUN
not_from_xrun : (k : CallKind) (w : ℕ) → is_refusal (capture_decides Xrun k w) ≡ true → (s : State) → is_refusal (capture_decides s k w) ≡ false → among s (Xrun ∷ []) ≡ false
not_from_xrun k w refused Setup e = refl
not_from_xrun k w refused Prepared e = refl
not_from_xrun k w refused Running e = refl
not_from_xrun k w refused Xrun e = absurd (both_ways _ e refused)
not_from_xrun k w refused Draining e = refl
not_from_xrun k w refused Paused e = refl

-- frames are got only in a stream that runs
only_running : (w : ℕ) (s : State) → moves (capture_decides s call.Tick w) ≡ true → among s (Xrun ∷ []) ≡ false
only_running w Setup e = refl
only_running w Prepared e = refl
only_running w Running e = refl
only_running w Xrun e = absurd (both_ways false refl e)
only_running w Draining e = refl
only_running w Paused e = refl

none_left : (fs xs : List Frame) → fs ++ left_the_list xs xs ≡ fs
none_left fs xs = let none : length xs - length xs ≡ 0 = omega arith in ap (λ k. fs ++ take k xs) none ∙ append-nil fs

these_left : (came after : List Frame) → left_the_list (came ++ after) after ≡ came
these_left came after = let n : length (came ++ after) - length after ≡ length came = omega (arith, length-append came after) in ap (λ k. take k (came ++ after)) n ∙ take_at came after (length came) refl

-- where the ring is not full, nothing was lost
none_lost : (b : Book) (came : List Frame) → filled b (length (kept b came)) ≡ false → b.unread ≤ b.geometry.buffer → length (lost b came) ≡ 0
none_lost b came e low =
    let some_left = eqb-false (b.unread + length (kept b came)) b.geometry.buffer e in
    let n = length-take (room b) came in
    let m = length-drop (room b) came in
    elim (cases_lt (length came) (room b)) [ inl l ↦ omega arith | inr g ↦ absurd (some_left (omega arith)) ]

module _ {R : Type 0} (p : SourcePoints R) (start : Situation R) where
  -- how the words of a history stand to the situation that it led to
  record Kept (h : Past R) (end : Situation R) : Type 0 where
    pub framed : Framed end.stream.geometry.buffer end.stream.oldest (end.stream.oldest + end.stream.unread) end.stream.given_up end.memory (answered h ++ entries_of end.stream.ledger end.ledger) (given_up p h) (unread p h) (handed_over p h)
    pub handed : frames_handed_over h ≡ map (λ n. get_or (given_up p h) n silence) (handed_over p h)
    pub copied : frames_copied h ≡ map (λ n. get_or (given_up p h) n silence) (copied_numbers p h)
    pub copied_below : (x : ℕ) → end.stream.given_up ≤ x → times x (copied_numbers p h) ≡ 0
    pub flows : p.coming start.source ≡ given_up p h ++ p.coming end.source
    pub gapless : among end.stream.state (Xrun ∷ []) ≡ false → end.stream.oldest + end.stream.unread ≡ end.stream.given_up
    pub lent : Lent (deeds h) end.stream.lending.granted end.stream.lending.out
    pub area_out : Area end.stream.lending.out end.stream.geometry.buffer end.stream.oldest (end.stream.oldest + end.stream.unread)
    pub ledgered : LedgerKept end.stream.ledger end.ledger end.stream.geometry.ledger
    pub rising : Rising (answered h ++ entries_of end.stream.ledger end.ledger) end.stream.oldest end.stream.given_up

  -- a stream just set up, with memory of its sizes
  pub record FreshStart : Type 0 where
    pub fresh_stream : start.stream ≡ fresh start.stream.geometry
    pub whole : length start.memory ≡ start.stream.geometry.buffer
    pub ledger_whole : length start.ledger ≡ start.stream.geometry.ledger

  kept_start : FreshStart → Kept [] start
  kept_start up =
      let g = start.stream.geometry in
      rw up.fresh_stream (record {
        framed = framed_none _ _ (omega (arith, g.lawful.0.0)) up.whole;
        handed = refl;
        copied = refl;
        copied_below = λ x l. refl;
        flows = refl;
        gapless = λ e. refl;
        lent = lent_none;
        area_out = tt;
        ledgered = record { within = omega (arith, g.lawful.3.0); few = omega arith; long = up.ledger_whole; sized = refl };
        rising = record { missed = omega arith; thrown = omega arith };
      })

  module _ (past : Past R) (t : Situation R) (held_so : Kept past t) where
    abbrev then : CaptureCall → Answer → Situation R → Past R
    then c r u = record { before = t; call = c; answer = r; after = u } ∷ past

    abbrev with : Book → Situation R
    with b = record { stream = b; source = t.source; memory = t.memory; ledger = t.ledger; host = t.host }

    -- no frame was given up
    same_given : given_up p past ++ left_the_list (p.coming t.source) (p.coming t.source) ≡ given_up p past
    same_given = none_left (given_up p past) (p.coming t.source)

    at_same : (ns : List ℕ) → map (λ n. get_or (given_up p past) n silence) ns ≡ map (λ n. get_or (given_up p past ++ left_the_list (p.coming t.source) (p.coming t.source)) n silence) ns
    at_same ns = ap (λ (z : List Frame). map (λ n. get_or z n silence) ns) (sym same_given)

    kept_nothing : (c : CaptureCall) (r : Answer) → of_capture_call c r ≡ nothing → Kept (then c r t) t
    kept_nothing c r e =
        record { framed = rw (e, same_given) held_so.framed; handed = rw e (held_so.handed ∙ at_same (handed_over p past)); copied = rw e (held_so.copied ∙ at_same (copied_numbers p past)); copied_below = rw e held_so.copied_below; flows = rw same_given held_so.flows; gapless = held_so.gapless; lent = rw e held_so.lent; area_out = held_so.area_out; ledgered = held_so.ledgered; rising = rw e held_so.rising }

    kept_turned : (c : CaptureCall) (s : State) → of_capture_call c (Ok Done) ≡ nothing → among t.stream.state (Xrun ∷ []) ≡ false → Kept (then c (Ok Done) (with (turned t.stream s))) (with (turned t.stream s))
    kept_turned c s e alive =
        record { framed = rw (e, same_given) held_so.framed; handed = rw e (held_so.handed ∙ at_same (handed_over p past)); copied = rw e (held_so.copied ∙ at_same (copied_numbers p past)); copied_below = rw e held_so.copied_below; flows = rw same_given held_so.flows; gapless = λ z. held_so.gapless alive; lent = rw e held_so.lent; area_out = held_so.area_out; ledgered = held_so.ledgered; rising = rw e held_so.rising }

    kept_begin : (wanted : ℕ) → t.stream.lending.out ≡ None → let u : Situation R = with (lends t.stream (with_out t.stream.lending (next_lease t.stream wanted))) in Kept (then (Begin wanted) (Ok (Granted (next_lease t.stream wanted))) u) u
    kept_begin wanted none =
        let place = mod-lt t.stream.oldest held_so.framed.sized in
        record {
          framed = rw same_given held_so.framed;
          handed = held_so.handed ∙ at_same (handed_over p past);
          copied = held_so.copied ∙ at_same (copied_numbers p past);
          copied_below = held_so.copied_below;
          flows = rw same_given held_so.flows;
          gapless = held_so.gapless;
          lent = lent_grant (rw none at held_so.lent) (next_lease t.stream wanted) refl;
          area_out = (refl, omega arith, omega arith);
          ledgered = held_so.ledgered;
          rising = held_so.rising;
        }

    kept_back : (l : LeaseParts) (n : ℕ) (why : Refusal) → t.stream.lending.out ≡ Some l → ends_lease why ≡ true → let u : Situation R = with (lends t.stream (with_none t.stream.lending)) in Kept (then (Commit l n) (Err why) u) u
    kept_back l n why out ends =
        record { framed = rw (ends, same_given) held_so.framed; handed = rw ends (held_so.handed ∙ at_same (handed_over p past)); copied = rw ends (held_so.copied ∙ at_same (copied_numbers p past)); copied_below = rw ends held_so.copied_below; flows = rw same_given held_so.flows; gapless = held_so.gapless; lent = rw ends (lent_back l (rw out at held_so.lent)); area_out = tt; ledgered = held_so.ledgered; rising = rw ends held_so.rising }

    kept_commit : (l : LeaseParts) (n : ℕ) → t.stream.lending.out ≡ Some l → n ≤ l.length → among t.stream.state (Xrun ∷ []) ≡ false → let u : Situation R = with (read t.stream n) in Kept (then (Commit l n) (Ok Done) u) u
    kept_commit l n out within alive =
        let f = held_so.framed in
        let at = rw out at held_so.area_out in
        let s = t.stream.geometry.buffer in
        let o = t.stream.oldest in
        let w = t.stream.unread in
        let fs = given_up p past in
        let upto : (o + n) + (w - n) ≡ o + w = omega arith in
        let zero_on : o + 0 ≡ o = omega arith in
        let place_on : l.place + 0 ≡ l.place = omega arith in
        let these : area t.memory l.place n ≡ map (λ x. get_or fs x silence) (numbers o n) =
        ap (λ x. area t.memory x n) (sym place_on) ∙ area_frames f l.place 0 n at.0 (omega arith) (omega arith) ∙ ap (λ x. map (λ y. get_or fs y silence) (numbers x n)) zero_on in
        let went : take n (unread p past) ≡ numbers o n = ap (take n) f.waits_are ∙ take_numbers o n ((o + w) - o) (omega arith) in
        record {
          framed = rw (same_given, upto) (framed_go f n (omega arith));
          handed =
              ap (λ x. x ++ area t.memory l.place n) held_so.handed
              ∙ ap (λ x. map (λ y. get_or fs y silence) (handed_over p past) ++ x) these
              ∙ sym (map-append (λ y. get_or fs y silence) (handed_over p past) (numbers o n))
              ∙ ap (λ x. map (λ y. get_or fs y silence) (handed_over p past ++ x)) (sym went)
              ∙ at_same (handed_over p past ++ take n (unread p past));
          copied = held_so.copied ∙ at_same (copied_numbers p past);
          copied_below = held_so.copied_below;
          flows = rw same_given held_so.flows;
          gapless = λ z. upto ∙ held_so.gapless alive;
          lent = lent_commit n l (rw out at held_so.lent);
          area_out = tt;
          ledgered = held_so.ledgered;
          rising = rising_later held_so.rising (o + n) t.stream.given_up (omega arith) (omega arith);
        }

    kept_take : let u : Situation R = with (noted_as t.stream (with_taken t.stream.ledger)) in Kept (then (Take Own) (Ok (Taken (oldest_of t.stream.ledger t.ledger))) u) u
    kept_take =
        let n = t.stream.ledger in
        let es = t.ledger in
        let same : (answered past ++ entry_list (oldest_of n es)) ++ entries_of (with_taken n) es ≡ answered past ++ entries_of n es =
        append_assoc (answered past) (entry_list (oldest_of n es)) (entries_of (with_taken n) es) ∙ ap (λ xs. answered past ++ xs) (sym (entries_taken held_so.ledgered)) in
        record { framed = rw (same, same_given) held_so.framed; handed = held_so.handed ∙ at_same (handed_over p past); copied = held_so.copied ∙ at_same (copied_numbers p past); copied_below = held_so.copied_below; flows = rw same_given held_so.flows; gapless = held_so.gapless; lent = held_so.lent; area_out = held_so.area_out; ledgered = ledger_taken held_so.ledgered; rising = rw same held_so.rising }

    kept_copy : (l : LeaseParts) (j x n : ℕ) (host' : List Frame) → t.stream.lending.out ≡ Some l → j + length (area t.host x n) ≤ l.length → area host' x n ≡ area t.memory (l.place + j) (length (area t.host x n))
        → let u : Situation R = record { stream = t.stream; source = t.source; memory = t.memory; ledger = t.ledger; host = host' } in Kept (then (Copy Own l j x n) (Ok Done) u) u
    kept_copy l j x n host' out within same =
        let f = held_so.framed in
        let at = rw out at held_so.area_out in
        let o = t.stream.oldest in
        let w = t.stream.unread in
        let fs = given_up p past in
        let len = length (area t.host x n) in
        let these : area t.memory (l.place + j) len ≡ map (λ y. get_or fs y silence) (numbers (o + j) len) = area_frames f l.place j len at.0 (omega arith) (omega arith) in
        let all : (o + w) - o ≡ w = omega arith in
        let picked : take len (drop j (unread p past)) ≡ numbers (o + j) len =
        ap (λ z. take len (drop j z)) f.waits_are
        ∙ ap (λ z. take len (drop j (numbers o z))) all
        ∙ ap (take len) (drop_numbers o j w (omega arith))
        ∙ take_numbers (o + j) len (w - j) (omega arith) in
        record {
          framed = rw same_given f;
          handed = held_so.handed ∙ at_same (handed_over p past);
          copied =
              ap (λ z. frames_copied past ++ z) (same ∙ these)
              ∙ ap (λ z. z ++ map (λ y. get_or fs y silence) (numbers (o + j) len)) held_so.copied
              ∙ sym (map-append (λ y. get_or fs y silence) (copied_numbers p past) (numbers (o + j) len))
              ∙ ap (λ z. map (λ y. get_or fs y silence) (copied_numbers p past ++ z)) (sym picked)
              ∙ at_same (copied_numbers p past ++ take len (drop j (unread p past)));
          copied_below = λ y far. rw (picked, times_append y (copied_numbers p past) (numbers (o + j) len)) (omega (arith, held_so.copied_below y far, times_after y (o + j) len (omega (arith, f.top))));
          flows = rw same_given held_so.flows;
          gapless = held_so.gapless;
          lent = held_so.lent;
          area_out = held_so.area_out;
          ledgered = held_so.ledgered;
          rising = held_so.rising;
        }

    -- an entry that is due goes behind the others
    entries_after : (due : Option Entry) → (is_some due ≡ true → t.stream.ledger.count < t.stream.ledger.size) → answered past ++ entries_of (with_noted t.stream.ledger due) (noted t.stream.ledger t.ledger due) ≡ (answered past ++ entries_of t.stream.ledger t.ledger) ++ entry_list due
    entries_after due space =
        ap (λ xs. answered past ++ xs) (entries_noted held_so.ledgered due space) ∙ sym (append_assoc (answered past) (entries_of t.stream.ledger t.ledger) (entry_list due))

    -- all that is unread is thrown away, and lies in an entry
    kept_emptied : (k : EntryKind) (c : CaptureCall) (s : State) → Throws k → of_capture_call c (Ok Done) ≡ was_emptied
        → (ltb 0 t.stream.unread ≡ true → t.stream.ledger.count < t.stream.ledger.size)
        → let u : Situation R = record { stream = emptied t.stream s (loss k t.stream); source = t.source; memory = t.memory; ledger = noted t.stream.ledger t.ledger (loss k t.stream); host = t.host } in Kept (then c (Ok Done) u) u
    kept_emptied k c s throws e has =
        let b = t.stream in
        let f = held_so.framed in
        let none_more : b.given_up + 0 ≡ b.given_up = omega arith in
        elim (cases_Bool (eqb b.unread 0)) [
          | inl none ↦
              let equal : b.oldest + b.unread ≡ b.oldest = omega (arith, eqb-true b.unread 0 none) in
              record {
                framed = rw (e, none, same_given, none_more) (framed_empty f equal);
                handed = rw e (held_so.handed ∙ at_same (handed_over p past));
                copied = rw e (held_so.copied ∙ at_same (copied_numbers p past));
                copied_below = rw e held_so.copied_below;
                flows = rw same_given held_so.flows;
                gapless = λ z. none_more;
                lent = rw e (lent_void b.lending.out held_so.lent);
                area_out = tt;
                ledgered = rw none held_so.ledgered;
                rising = rw (e, none) (rising_later held_so.rising b.given_up b.given_up (omega (arith, f.low, f.top)) (omega arith));
              }
          | inr some ↦
              let unread_some : 0 < b.unread = elim (cases_lt 0 b.unread) [ inl l ↦ l | inr g ↦ absurd (eqb-false b.unread 0 some (omega arith)) ] in
              let space : b.ledger.count < b.ledger.size = has (lt-ltb 0 b.unread unread_some) in
              let x : Entry = record { kind = k; first = b.oldest; lost = b.unread; missed = 0; cause = 0; depth = 0 } in
              let book = entries_after (Some x) (λ y. space) in
              let all : b.unread ≡ (b.oldest + b.unread) - b.oldest = omega arith in
              record {
                framed = rw (e, some, book, same_given, none_more) (framed_lose f x refl all);
                handed = rw e (held_so.handed ∙ at_same (handed_over p past));
                copied = rw e (held_so.copied ∙ at_same (copied_numbers p past));
                copied_below = rw e held_so.copied_below;
                flows = rw same_given held_so.flows;
                gapless = λ z. none_more;
                lent = rw e (lent_void b.lending.out held_so.lent);
                area_out = tt;
                ledgered = rw some (ledger_noted held_so.ledgered (Some x) (λ y. space));
                rising = rw (e, some, book) (rising_later (rising_thrown held_so.rising x throws (omega arith)) b.given_up b.given_up (omega (arith, f.top)) (omega arith));
              }
        ]

    kept_tick : (k : ℕ) (r : Answer) (u : Situation R) → among t.stream.state (Xrun ∷ []) ≡ false → t.stream.ledger.count < t.stream.ledger.size
        → Captured p t.stream t.source t.memory t.ledger k r u.stream u.source u.memory u.ledger → u.host ≡ t.host → Kept (then (Tick Own Own k) r u) u
    kept_tick k r u alive space q same-host =
        let b = t.stream in
        let f = held_so.framed in
        let s = b.geometry.buffer in
        let o = b.oldest in
        let w = b.unread in
        let fs = given_up p past in
        let came = q.came in
        let K = kept b came in
        let L = lost b came in
        let n = length K in
        let missing = length L in
        let level : o + w ≡ b.given_up = held_so.gapless alive in
        let flow : p.coming t.source ≡ came ++ p.coming u.source = chains_take p t.source u.source came q.given in
        let gave : left_the_list (p.coming t.source) (p.coming u.source) ≡ came = ap (λ z. left_the_list z (p.coming u.source)) flow ∙ these_left came (p.coming u.source) in
        let few : n ≤ s - w = omega (arith, length-take (room b) came) in
        let all : (o + w) - o ≡ w = omega arith in
        let m' = stored s t.memory (o + w) K in
        let joined : held (o % s) (((o + w) - o) + n) m' ≡ held (o % s) ((o + w) - o) t.memory ++ K =
        rw all (stored_held s (o % s) w (o + w) t.memory K f.whole (mod-lt o f.sized) (omega (arith, f.fits)) (sym (mod-add-mod o s w))) in
        let level_framed = rw (sym level) at f in
        let more = framed_more level_framed n m' K refl (length_stored s t.memory (o + w) K ∙ f.whole) (omega (arith, f.fits)) joined in
        let whole_came : (fs ++ K) ++ L ≡ fs ++ left_the_list (p.coming t.source) (p.coming u.source) =
        append_assoc fs K L ∙ ap (λ z. fs ++ z) (take-append-drop (room b) came) ∙ ap (λ z. fs ++ z) (sym gave) in
        let none : (x : ℕ) → length fs ≤ x → times x (handed_over p past) ≡ 0 = λ x far. let z = f.booked.later x (omega (arith, f.count)) in omega arith in
        let none_copied : (x : ℕ) → length fs ≤ x → times x (copied_numbers p past) ≡ 0 = λ x far. held_so.copied_below x (omega (arith, f.count)) in
        let upto : (o + w) + n ≡ o + (w + n) = omega arith in
        let flows' : p.coming start.source ≡ (fs ++ left_the_list (p.coming t.source) (p.coming u.source)) ++ p.coming u.source =
        held_so.flows ∙ ap (λ z. fs ++ z) flow ∙ sym (append_assoc fs came (p.coming u.source)) ∙ ap (λ z. (fs ++ z) ++ p.coming u.source) (sym gave) in
        let handed' = held_so.handed ∙ sym (map_get_or_append fs came (handed_over p past) none) ∙ ap (λ z. map (λ y. get_or (fs ++ z) y silence) (handed_over p past)) (sym gave) in
        let copied' = held_so.copied ∙ sym (map_get_or_append fs came (copied_numbers p past) none_copied) ∙ ap (λ z. map (λ y. get_or (fs ++ z) y silence) (copied_numbers p past)) (sym gave) in
        rw (q.answer, made {source = u.source} q.stream refl q.memory q.ledger same-host) (elim (cases_Bool (filled b n)) [
          | inl full ↦
              let x : Entry = record { kind = kinds.Overrun; first = o + w + n; lost = missing; missed = 0; cause = 0; depth = 0 } in
              let book = entries_after (Some x) (λ y. space) in
              let total : ((o + w) + n) + missing ≡ b.given_up + (n + missing) = omega arith in
              record {
                framed = rw (full, book, sym whole_came, sym total, sym upto) (framed_miss more missing L refl x refl refl);
                handed = handed';
                copied = copied';
                copied_below = λ y far. held_so.copied_below y (omega arith);
                flows = flows';
                gapless = rw full (λ z. absurd (both_ways true z refl));
                lent = held_so.lent;
                area_out = further b.lending.out _ _ _ _ held_so.area_out (omega arith);
                ledgered = rw full (ledger_noted held_so.ledgered (Some x) (λ y. space));
                rising = rw (full, book, sym total) (rising_missed held_so.rising x refl refl (omega arith));
              }
          | inr not_full ↦
              let nil : missing ≡ 0 = none_lost b came not_full (omega (arith, f.fits)) in
              let total : (o + w) + n ≡ b.given_up + (n + missing) = omega arith in
              let kept_all : fs ++ K ≡ fs ++ left_the_list (p.coming t.source) (p.coming u.source) = sym (append-nil (fs ++ K)) ∙ ap (λ z. (fs ++ K) ++ z) (sym (nil_from_length L nil)) ∙ whole_came in
              record {
                framed = rw (not_full, sym kept_all, sym total, sym upto) more;
                handed = handed';
                copied = copied';
                copied_below = λ y far. held_so.copied_below y (omega arith);
                flows = flows';
                gapless = λ z. omega arith;
                lent = held_so.lent;
                area_out = further b.lending.out _ _ _ _ held_so.area_out (omega arith);
                ledgered = rw not_full held_so.ledgered;
                rising = rw not_full (rising_later held_so.rising o (b.given_up + (n + missing)) (omega arith) (omega arith));
              }
        ])

    kept_still : (k : ℕ) (s : State) → Kept (then (Tick Own Own k) (Ok (Ticked (record { frames = 0; state = s; periods = 0 }))) t) t
    kept_still k s =
        record { framed = rw (append-nil (unread p past), same_given) held_so.framed; handed = held_so.handed ∙ at_same (handed_over p past); copied = held_so.copied ∙ at_same (copied_numbers p past); copied_below = held_so.copied_below; flows = rw same_given held_so.flows; gapless = held_so.gapless; lent = held_so.lent; area_out = held_so.area_out; ledgered = held_so.ledgered; rising = held_so.rising }

    kept_another : (c : CaptureCall) (r : Answer) (u : Situation R) → of_capture_call c (Err refusal.Memory) ≡ nothing → Refuses refusal.Memory r t u → Kept (then c r u) u
    kept_another c r u e step = rw (step.0, step.1) (kept_nothing c (Err refusal.Memory) e)

    -- a refused call left all as it was
    kept_refused : (c : CaptureCall) (why : Refusal) (r : Answer) (u : Situation R) → of_capture_call c (Err why) ≡ nothing → r ≡ Err why → u.stream ≡ t.stream → RestSame t u → Kept (then c r u) u
    kept_refused c why r u e told same rest = rw (told, made same rest.source_same rest.memory_same rest.ledger_same rest.host_same) (kept_nothing c (Err why) e)

    kept_turns : (c : CaptureCall) (k : CallKind) (r : Answer) (u : Situation R) → ((why : Refusal) → of_capture_call c (Err why) ≡ nothing) → of_capture_call c (Ok Done) ≡ nothing → is_refusal (capture_decides Xrun k t.stream.unread) ≡ true
        → Unless (refusing (decides t.stream k) ∷ []) r t.stream u.stream (Turned t.stream k r u.stream) → RestSame t u → Kept (then c r u) u
    kept_turns c k r u e d not-xrun step rest =
        elim (refused_or_obeyed (refusing (decides t.stream k) ∷ []) step) [
          | inl stop ↦ kept_refused c stop.0 r u (e stop.0) stop.1.0 stop.1.1 rest
          | inr go ↦ rw (go.1.answer, made go.1.stream rest.source_same rest.memory_same rest.ledger_same rest.host_same) (kept_turned c _ d (not_from_xrun k t.stream.unread not-xrun t.stream.state go.0.0))
        ]

    kept_empties : (k : EntryKind) (c : CaptureCall) (kind : CallKind) (r : Answer) (u : Situation R) → Throws k → ((why : Refusal) → of_capture_call c (Err why) ≡ nothing) → of_capture_call c (Ok Done) ≡ was_emptied
        → Unless {T = Book × List Entry} (no_emptying t.stream kind t.ledger) r (t.stream, t.ledger) (u.stream, u.ledger) (Emptied t.stream kind (loss k t.stream) t.ledger r u.stream u.ledger)
        → u.source ≡ t.source → u.memory ≡ t.memory → u.host ≡ t.host → Kept (then c r u) u
    kept_empties k c kind r u throws e d step a m h =
        elim (refused_or_obeyed (no_emptying t.stream kind t.ledger) step) [
          | inl stop ↦ rw (stop.1.0, made (ap (λ x. x.0) stop.1.1) a m (ap (λ x. x.1) stop.1.1) h) (kept_nothing c (Err stop.0) (e stop.0))
          | inr go ↦ rw (go.1.answer, made go.1.stream a m go.1.ledger h) (kept_emptied k c _ throws d (has_room t.stream.ledger t.stream.unread go.0.1.1.0))
        ]

    kept_step : (c : CaptureCall) (r : Answer) (u : Situation R) → Step p t c r u → Kept (then c r u) u
    kept_step (Begin wanted) r u step =
        let rest = step.1 in
        elim (refused_or_obeyed (no_begin t.stream wanted) step.0) [
          | inl stop ↦ kept_refused (Begin wanted) stop.0 r u refl stop.1.0 stop.1.1 rest
          | inr go ↦ rw (go.1.answer, made go.1.stream rest.source_same rest.memory_same rest.ledger_same rest.host_same) (kept_begin wanted (none_out _ go.0.0))
        ]
    kept_step (Copy Own l j x n) r u step =
        let part = area t.host x n in
        let part' = step.0 in
        let into = step.2 in
        elim (refused_or_obeyed (no_access t.stream t.memory l j (length part)) step.1) [
          | inl stop ↦
              let back : u.host ≡ t.host = into.host_after ∙ ap (λ z. paste t.host x z (length part)) stop.1.1 ∙ put_back t.host x n in
              rw (stop.1.0, made into.stream_same into.source_same into.memory_same into.ledger_same back) (kept_nothing (Copy Own l j x n) (Err stop.0) refl)
          | inr go ↦
              let out = held_is _ l (not-false _ go.0.1.0) in
              let inside = ltb-false _ _ go.0.1.1.1.0 in
              let at = rw out at held_so.area_out in
              let long : length part' ≡ length part = ap length go.1.memory ∙ length-take (length part) (drop (l.place + j) t.memory) ∙ omega (arith, length-drop (l.place + j) t.memory, held_so.framed.whole) in
              let there : area u.host x n ≡ area t.memory (l.place + j) (length part) =
              ap (λ z. area z x n) (into.host_after ∙ ap (λ z. paste t.host x part' z) (sym long)) ∙ area_written t.host part' x n long ∙ go.1.memory in
              rw (go.1.answer, made {host = u.host} into.stream_same into.source_same into.memory_same into.ledger_same refl) (kept_copy l j x n u.host out inside there)
        ]
    kept_step (Copy Another l j x n) r u step = kept_another (Copy Another l j x n) r u refl step
    kept_step (Commit l n) r u step =
        let rest = step.1 in
        elim (cases_if (not (holds t.stream.lending.out l)) step.0) [
          | inl stop ↦ kept_refused (Commit l n) refusal.WrongLease r u refl stop.1.0 stop.1.1 rest
          | inr on ↦ elim (cases_if (among t.stream.state (Setup ∷ [])) on.1) [
            | inl stop ↦ kept_refused (Commit l n) refusal.State r u refl stop.1.0 stop.1.1 rest
            | inr further-on ↦
                let out = held_is _ l (not-false _ on.0) in
                elim (cases_if (among t.stream.state (Xrun ∷ [])) further-on.1) [
                  | inl stop ↦ rw (stop.1.0, made stop.1.1 rest.source_same rest.memory_same rest.ledger_same rest.host_same) (kept_back l n refusal.Xrun out refl)
                  | inr alive ↦ elim (cases_if (ltb l.length n) alive.1) [
                    | inl stop ↦ rw (stop.1.0, made stop.1.1 rest.source_same rest.memory_same rest.ledger_same rest.host_same) (kept_back l n refusal.Beyond out refl)
                    | inr go ↦ rw (go.1.answer, made go.1.stream rest.source_same rest.memory_same rest.ledger_same rest.host_same) (kept_commit l n out (ltb-false _ _ go.0) alive.0)
                  ]
                ]
          ]
        ]
    kept_step Start r u step = kept_turns Start call.Start r u (λ why. refl) refl refl step.0 step.1
    kept_step (Tick Own Own k) r u step =
        elim (refused_or_obeyed (not (eqb (length t.memory) t.stream.geometry.buffer) ⇒ refusal.Memory ∷ not (eqb (length t.ledger) t.stream.geometry.ledger) ⇒ refusal.Memory ∷ []) step.0) [
          | inl stop ↦ rw (stop.1.0, made (ap (λ x. x.0) stop.1.1) (ap (λ x. x.1) stop.1.1) (ap (λ x. x.2) stop.1.1) (ap (λ x. x.3) stop.1.1) step.1) (kept_nothing (Tick Own Own k) (Err stop.0) refl)
          | inr go ↦ elim (cases_if (moves (decides t.stream call.Tick)) go.1) [
            | inl moving ↦ elim (refused_or_obeyed (no_moving t.stream k) moving.1) [
              | inl stop ↦ rw (stop.1.0, made (ap (λ x. x.0) stop.1.1) (ap (λ x. x.1) stop.1.1) (ap (λ x. x.2) stop.1.1) (ap (λ x. x.3) stop.1.1) step.1) (kept_nothing (Tick Own Own k) (Err stop.0) refl)
              | inr play ↦ kept_tick k r u (only_running t.stream.unread t.stream.state moving.0) (leb-false _ _ play.0.1.0) play.1 step.1
            ]
            | inr still ↦ rw (still.1.answer, made (ap (λ x. x.0) still.1.same) (ap (λ x. x.1) still.1.same) (ap (λ x. x.2) still.1.same) (ap (λ x. x.3) still.1.same) step.1) (kept_still k t.stream.state)
          ]
        ]
    kept_step (Tick Own Another k) r u step = kept_another (Tick Own Another k) r u refl step
    kept_step (Tick Another g k) r u step = kept_another (Tick Another g k) r u refl step
    kept_step Pause r u step = kept_turns Pause call.Pause r u (λ why. refl) refl refl step.0 step.1
    kept_step Resume r u step = kept_turns Resume call.Resume r u (λ why. refl) refl refl step.0 step.1
    kept_step Drain r u step =
        elim (cases_if (is_some t.stream.lending.out) step.0) [
          | inl stop ↦ kept_refused Drain refusal.LeaseOut r u refl stop.1.0 stop.1.1 step.1
          | inr go ↦ kept_turns Drain call.Drain r u (λ why. refl) refl refl go.1 step.1
        ]
    kept_step (Drop Own) r u step = kept_empties kinds.Dropped (Drop Own) call.Drop r u (refl, refl) (λ why. refl) refl step.0 step.1 step.2 step.3
    kept_step (Drop Another) r u step = kept_another (Drop Another) r u refl step
    kept_step (Prepare Own) r u step = kept_empties kinds.Prepared (Prepare Own) call.Prepare r u (refl, refl) (λ why. refl) refl step.0 step.1 step.2 step.3
    kept_step (Prepare Another) r u step = kept_another (Prepare Another) r u refl step
    kept_step (Take Own) r u step =
        let rest = step.1 in
        elim (refused_or_obeyed (not (eqb (length t.ledger) t.stream.geometry.ledger) ⇒ refusal.Memory ∷ []) step.0) [
          | inl stop ↦ kept_refused (Take Own) stop.0 r u refl stop.1.0 stop.1.1 rest
          | inr go ↦ rw (go.1.answer, made go.1.stream rest.source_same rest.memory_same rest.ledger_same rest.host_same) kept_take
        ]
    kept_step (Take Another) r u step = kept_another (Take Another) r u refl step

  kept_always : FreshStart → (h : Past R) (end : Situation R) → Leads (Step p) start h end → Kept h end
  kept_always up [] end led = rw led (kept_start up)
  kept_always up (m ∷ past) end led = rw led.2 (kept_step past m.before (kept_always up past m.before led.0) m.call m.answer m.after led.1)

  means_always : FreshStart → (h : Past R) (end : Situation R) → Leads (Step p) start h end → Means end.stream
  means_always up =
      holds_along (Step p) (λ t. Means t.stream) (rw up.fresh_stream (refl, refl))
      (λ past m led step means. means_step p m.before m.after m.answer means m.call step)

  pub capture_accounted : (h : Past R) (end : Situation R) → FreshStart → Leads (Step p) start h end → CaptureAccount p start h end
  capture_accounted h end up led =
      let held_so = kept_always up h end led in
      let f = held_so.framed in
      let g = end.stream.geometry in
      let fs = given_up p h in
      let rest = p.coming end.source in
      let told : entries h end ≡ answered h ++ entries_of end.stream.ledger end.ledger = ap (λ xs. answered h ++ xs) (further_are held_so.ledgered) in
      let all : (end.stream.oldest + end.stream.unread) - end.stream.oldest ≡ end.stream.unread = omega arith in
      let unread_count : length (unread p h) ≡ end.stream.unread = ap length f.waits_are ∙ length_numbers end.stream.oldest ((end.stream.oldest + end.stream.unread) - end.stream.oldest) ∙ all in
      let none : (x : ℕ) → length fs ≤ x → times x (handed_over p h) ≡ 0 = λ x far. let z = f.booked.later x (omega (arith, f.count)) in omega arith in
      let none_copied : (x : ℕ) → length fs ≤ x → times x (copied_numbers p h) ≡ 0 = λ x far. held_so.copied_below x (omega (arith, f.count)) in
      let once : (n : ℕ) → n < length fs → (times n (unread p h) + times n (handed_over p h)) + lies n (entries h end) ≡ 1 = λ n inside. rw (told, f.waits_are) (booked_once f.booked f.low n (omega (arith, f.count))) in
      let no_other : (n : ℕ) → length fs ≤ n → (times n (unread p h) + times n (handed_over p h)) + lies n (entries h end) ≡ 0 = λ n far. rw (told, f.waits_are) (booked_no_other f.booked f.low f.top n (omega (arith, f.count))) in
      record {
        each_captured_frame_once = once;
        no_other_frame = no_other;
        nothing_swallowed = held_so.flows;
        handed_over_is_the_source = held_so.handed ∙ sym (map_get_or_append fs rest (handed_over p h) none) ∙ ap (λ z. map (λ n. get_or z n silence) (handed_over p h)) (sym held_so.flows);
        handed_over_in_order = f.ordered.rises;
        copied_is_the_source = held_so.copied ∙ sym (map_get_or_append fs rest (copied_numbers p h) none_copied) ∙ ap (λ z. map (λ n. get_or z n silence) (copied_numbers p h)) (sym held_so.flows);
        each_lease_ends_once = lent_once held_so.lent;
        leases_are_numbered = held_so.lent.numbered;
        hardware_keeps_out = λ x inside.
            let at = area_places _ _ _ _ x held_so.area_out inside in
            let waits = times_inside at.0 end.stream.oldest ((end.stream.oldest + end.stream.unread) - end.stream.oldest) at.1 (omega arith) in
            (at.0, rw (f.waits_are, waits) (omega arith), at.3);
        ticks_leave_what_is_unread =
            at_each_moment (Step p) _
            (λ past m before step tick n some.
            let f' = (kept_always up past m.before before).framed in
            let there = times_within n _ _ (rw f'.waits_are at some) in
            tick_leaves_unread p m.before m.after m.answer f'.sized (omega (arith, f'.fits)) n there.0 (omega arith) m.call step tick) h end led;
        lost_stretches_are_apart = λ n. elim (cases_lt n (length fs)) [ inl l ↦ omega (arith, once n l) | inr far ↦ omega (arith, no_other n far) ];
        overruns_rise = rw told held_so.rising.missed;
        thrown_away_rise = rw told held_so.rising.thrown;
        unread_are_the_last_given_up_unless_in_xrun = λ elsewhere.
            (f.waits_are ∙ ap (λ (k : ℕ). numbers end.stream.oldest k) (all ∙ sym unread_count), rw (unread_count, f.count) (held_so.gapless (not_in_xrun end.stream.state elsewhere)));
        states_mean_what_they_say = rw unread_count (means_always up h end led);
        no_lease_meets_a_wrong_state = at_each_moment (Step p) _ (λ past m before step. no_wrong_state p m.before m.after m.answer (means_always up past m.before before) m.call step) h end led;
        counts_are_the_words = (sym f.count, sym unread_count);
        avail_is_what_is_unread = rw (g.doubled, unread_count) (captured_unread g.buffer end.stream.oldest end.stream.unread g.lawful.0 (omega (arith, f.fits)));
      }
