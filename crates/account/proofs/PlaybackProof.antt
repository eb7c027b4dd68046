-- Playback: every frame and every lease is accounted for, after any calls since set-up. Assumes nothing.
use Rattle.std.proofs.Common.{◌≡◌, ℕ, suc, ◌+◌, ◌-◌, ◌%◌, ◌<◌, ◌≤◌, true, false, not, ◌&&◌, eqb, ltb, List, [], ◌∷◌, ◌++◌, map, length, get_or, take, drop, is_some, Some, None, Option, sym, refl, ap, ◌∙◌, subst, inl, inr, mod-lt, arith, Ok, Err}
use native.Mathlib.Nat.{mod-add-mod}
use lib.Seq.{paste, length-paste}
use Rattle.std.proofs.lemmas.Bool.{cases_lt, cases_eq, cases_Bool, leb-false, ltb-false, eqb-true, eqb-false, not-false, lt-ltb, and_cases, both_ways}
use Rattle.std.proofs.lemmas.List.{map-append, append_assoc, append-nil, length-take, length-drop, take-append-drop, take-take}
use Rattle.codes.specs.declared.refusal.Refusal.{Refusal}
use Rattle.codes.specs.declared.refusal.Refusal.TheVariants as refusal
use Rattle.codes.specs.declared.entry_kind.EntryKind.{EntryKind}
use Rattle.codes.specs.declared.entry_kind.EntryKind.TheVariants as kinds
use Rattle.codes.specs.declared.state.State.{State}
use Rattle.codes.specs.declared.state.State.TheVariants.{Setup, Xrun, Draining}
use Rattle.frames.specs.declared.frame.Frame.{Frame}
use Rattle.frames.specs.Samples.{silence, mixed_all}
use Rattle.geometry.proofs.Wrapping.{playback_free}
use Rattle.ring.specs.Held.{held}
use Rattle.ring.proofs.Holding.{held_area}
use Rattle.ring.proofs.Writing.{held_paste_free}
use Rattle.sinks.specs.declared.stop.Stop.{Stop}
use Rattle.sinks.specs.Making.{Lawful}
use Rattle.sinks.specs.Sink.{SinkPoints, Took}
use Rattle.sinks.proofs.Chains.{took_none, took_join, took_heal, offers_took}
use Rattle.calls.specs.Answers.{Answer}
use Rattle.calls.specs.declared.answer.Outcome.TheVariants.{Done, Granted, Ticked, Taken}
use Rattle.calls.specs.declared.call.Given.TheVariants.{Own, Another}
use Rattle.calls.specs.declared.call.PlaybackCall.{PlaybackCall}
use Rattle.calls.specs.declared.call.PlaybackCall.TheVariants.{Begin, Put, Mix, Commit, Start, Tick, Pause, Resume, Drain, Drop, Prepare, Take}
use Rattle.calls.specs.declared.entry.Entry.{Entry}
use Rattle.calls.specs.declared.lease_parts.LeaseParts.{LeaseParts}
use Rattle.calls.specs.declared.verdict.CallKind.{CallKind}
use Rattle.calls.specs.declared.verdict.CallKind.TheVariants as call
use Rattle.calls.specs.Lending.{holds}
use Rattle.account.specs.Areas.{area, with_out, with_none}
use Rattle.account.specs.Ledgers.{LedgerNumbers, entries_of, is_full, noted, with_noted, with_taken, oldest_of}
use Rattle.account.specs.Limits.{frame_limit}
use Rattle.account.specs.Playback.{next_lease, lends, turned, moved, loss, emptied, noted_as, tick_entry, Turned, Played, no_begin, no_access, no_emptying, decides}
use Rattle.account.specs.PlaybackBook.{Book, fresh, waits, waiting_frames}
use Rattle.account.specs.Rules.{Refuses, Reason, ◌⇒◌, Unless}
use Rattle.account.specs.States.{among, moves, refusing}
use Rattle.account.specs.Entries.{entry_list}
use Rattle.account.specs.Happenings.{nothing, emptied as was_emptied, of_playback_call, ends_lease}
use Rattle.account.specs.Histories.{Leads}
use Rattle.account.specs.Numbers.{numbers, times, RiseFrom}
use Rattle.account.specs.PlaybackHistory.{Situation, RestSame, Step, Past, frames_committed, waiting, played, answered, entries, deeds}
use Rattle.account.specs.Promise.{PlaybackAccount}
use Rattle.account.proofs.Booking.{booked_once, booked_no_other}
use Rattle.account.proofs.Framing.{Framed, framed_none, framed_write, framed_note, framed_taken_in, framed_go, framed_lose, framed_empty}
use Rattle.account.proofs.Histories.{holds_along, at_each_moment}
use Rattle.account.proofs.LedgerSteps.{LedgerKept, ledger_noted, entries_noted, entries_taken, ledger_taken, further_are}
use Rattle.account.proofs.Lent.{none_out, held_is, Lent, lent_none, lent_grant, lent_back, lent_commit, lent_void, lent_once, Area, further, area_places}
use Rattle.account.proofs.PlaybackMeaning.{Means, means_step, no_wrong_state}
use Rattle.account.proofs.Refusals.{cases_if, refused_or_obeyed}
use Rattle.account.proofs.Stretches.{place_of, times_within, take_numbers, places_differ, map_get_or_append, frames_numbered, length_numbers}
use Rattle.account.proofs.Stretching.{rise_later, rise_more, rise_none}
use Rattle.account.proofs.Ticking.{tick_leaves_memory}

pub made : {S : Type 0} {u : Situation S} {b : Book} {sink : S} {m : List Frame} {ledger : List Entry} → u.stream ≡ b → u.sink ≡ sink → u.memory ≡ m → u.ledger ≡ ledger → u ≡ record { stream = b; sink = sink; memory = m; ledger = ledger }
made a b c d = rw (sym a, sym b, sym c, sym d)

-- an entry that is due lost nothing
abbrev LostNothing : Option Entry → Type 0
LostNothing None = Unit {0}
LostNothing (Some e) = e.lost ≡ 0

tick_lost_nothing : (b : Book) (k went : ℕ) (w : Stop) → LostNothing (tick_entry b k went w)
tick_lost_nothing b k went w =
    elim (cases_Bool (eqb went (waits b))) [
      | inl none ↦ elim (cases_Bool (among b.state (Draining ∷ []))) [ inl e ↦ rw (none, e) tt | inr e ↦ rw (none, e) refl ]
      | inr some ↦ elim (cases_Bool (ltb went k)) [ inl e ↦ rw (some, e) refl | inr e ↦ rw (some, e) tt ]
    ]

framed_due : {s f u t : ℕ} {m : List Frame} {es : List Entry} {fs : List Frame} {ws went : List ℕ} → Framed s f u t m es fs ws went → (due : Option Entry) → LostNothing due → Framed s f u t m (es ++ entry_list due) fs ws went
framed_due {es = es} k None none = rw (append-nil es) k
framed_due k (Some e) none = framed_note k e none

rise_due : (es : List Entry) (top : ℕ) → RiseFrom 0 es top → (due : Option Entry) → LostNothing due → RiseFrom 0 (es ++ entry_list due) top
rise_due es top r None none = rw (append-nil es) r
rise_due es top r (Some e) none = rise_none 0 es top e r none

length_mixed : (A F : List Frame) → length (mixed_all A F) ≡ length A
length_mixed [] F = refl
length_mixed (f ∷ A) [] = refl
length_mixed (f ∷ A) (x ∷ F) = ap suc (length_mixed A F)

-- where an entry is due and the call was not refused, the ledger has room
pub has_room : (n : LedgerNumbers) (w : ℕ) → (is_full n && ltb 0 w) ≡ false → ltb 0 w ≡ true → n.count < n.size
has_room n w none some =
    elim (and_cases (is_full n) (ltb 0 w) none) [ inl e ↦ leb-false _ _ e | inr e ↦ absurd (both_ways (ltb 0 w) e some) ]

module _ {S : Type 0} (p : SinkPoints S) (law : (s : S) → Lawful (p.makes s)) (start : Situation S) where
  -- the entries answered and those that the ledger holds
  abbrev all_entries : Past S → LedgerNumbers → List Entry → List Entry
  all_entries h n es = answered h ++ entries_of n es

  -- how the words of a history stand to the situation that it led to
  record Kept (h : Past S) (end : Situation S) : Type 0 where
    pub framed : Framed end.stream.geometry.buffer end.stream.oldest end.stream.committed end.stream.committed end.memory (all_entries h end.stream.ledger end.ledger) (frames_committed h) (waiting h) (played h)
    pub rising : RiseFrom 0 (all_entries h end.stream.ledger end.ledger) end.stream.oldest
    pub took : Took p start.sink (map (λ n. get_or (frames_committed h) n silence) (played h)) end.sink
    pub lent : Lent (deeds h) end.stream.lending.granted end.stream.lending.out
    pub area_out : Area end.stream.lending.out end.stream.geometry.buffer end.stream.committed (end.stream.oldest + end.stream.geometry.buffer)
    pub ledgered : LedgerKept end.stream.ledger end.ledger end.stream.geometry.ledger

  -- a stream just set up, with memory of its sizes
  pub record FreshStart : Type 0 where
    pub fresh_stream : start.stream ≡ fresh start.stream.geometry
    pub whole : length start.memory ≡ start.stream.geometry.buffer
    pub ledger_whole : length start.ledger ≡ start.stream.geometry.ledger

  kept_start : FreshStart → Kept [] start
  kept_start up =
      let g = start.stream.geometry in
      rw up.fresh_stream (record {
        framed = framed_none _ _ (omega (arith, g.lawful.0.0)) up.whole;
        rising = omega arith;
        took = took_none p law start.sink;
        lent = lent_none;
        area_out = tt;
        ledgered = record { within = omega (arith, g.lawful.3.0); few = omega arith; long = up.ledger_whole; sized = refl };
      })

  module _ (past : Past S) (t : Situation S) (kept : Kept past t) where
    abbrev then : PlaybackCall → Answer → Situation S → Past S
    then c r u = record { before = t; call = c; answer = r; after = u } ∷ past

    abbrev with : Book → Situation S
    with b = record { stream = b; sink = t.sink; memory = t.memory; ledger = t.ledger }

    kept_nothing : (c : PlaybackCall) (r : Answer) (u : Situation S) → of_playback_call c r ≡ nothing → Kept (then c r u) t
    kept_nothing c r u e = record { framed = rw e kept.framed; rising = rw e kept.rising; took = rw e kept.took; lent = rw e kept.lent; area_out = kept.area_out; ledgered = kept.ledgered }

    kept_turned : (c : PlaybackCall) (r : Answer) (u : Situation S) (s : State) → of_playback_call c r ≡ nothing → Kept (then c r u) (with (turned t.stream s))
    kept_turned c r u s e = record { framed = rw e kept.framed; rising = rw e kept.rising; took = rw e kept.took; lent = rw e kept.lent; area_out = kept.area_out; ledgered = kept.ledgered }

    kept_begin : (wanted : ℕ) (u : Situation S) → t.stream.lending.out ≡ None → Kept (then (Begin wanted) (Ok (Granted (next_lease t.stream wanted))) u) (with (lends t.stream (with_out t.stream.lending (next_lease t.stream wanted))))
    kept_begin wanted u none =
        let low = kept.framed.low in
        let place = mod-lt t.stream.committed kept.framed.sized in
        record {
          framed = kept.framed;
          rising = kept.rising;
          took = kept.took;
          lent = lent_grant (rw none at kept.lent) (next_lease t.stream wanted) refl;
          area_out = (refl, omega (arith, kept.framed.fits), omega arith);
          ledgered = kept.ledgered;
        }

    kept_write : (c : PlaybackCall) (u : Situation S) (l : LeaseParts) (j : ℕ) (fs : List Frame) → of_playback_call c (Ok Done) ≡ nothing → t.stream.lending.out ≡ Some l → j + length fs ≤ l.length
        → Kept (then c (Ok Done) u) (record { stream = t.stream; sink = t.sink; memory = paste t.memory (l.place + j) fs (length fs); ledger = t.ledger })
    kept_write c u l j fs none held_out within =
        let k = kept.framed in
        let at = rw held_out at kept.area_out in
        let s = t.stream.geometry.buffer in
        let a = t.stream.committed in
        let h = t.stream.oldest in
        let m = t.memory in
        let m' = paste m (l.place + j) fs (length fs) in
        let fits : l.place + j + length fs ≤ length m = omega (arith, k.whole) in
        let long : length m' ≡ s = length-paste m (l.place + j) fs (length fs) fits (omega arith) ∙ k.whole in
        let same : held (h % s) (a - h) m' ≡ held (h % s) (a - h) m =
        elim (cases_eq (length fs) 0) [
          | inl empty ↦ ap (held (h % s) (a - h)) (rw empty (ap (λ xs. xs ++ drop (l.place + j + 0) m) (append-nil (take (l.place + j) m)) ∙ ap (λ x. take (l.place + j) m ++ drop x m) (omega arith) ∙ take-append-drop (l.place + j) m))
          | inr some ↦
              let place : (h % s + ((a - h) + j)) % s ≡ l.place + j =
              mod-add-mod h s ((a - h) + j) ∙ ap (λ x. x % s) (omega (arith, k.low)) ∙ place_of s a j (omega (arith, at.0)) ∙ omega (arith, at.0) in
              ap (λ x. held (h % s) (a - h) (paste m x fs (length fs))) (sym place)
              ∙ held_paste_free s (h % s) (a - h) ((a - h) + j) (length fs) m fs k.whole (mod-lt h k.sized) (omega arith) (omega (arith, k.low)) (omega (arith, place)) (omega arith)
        ] in
        record { framed = rw none (framed_write k m' long same); rising = rw none kept.rising; took = rw none kept.took; lent = rw none kept.lent; area_out = kept.area_out; ledgered = kept.ledgered }

    kept_back : (l : LeaseParts) (n : ℕ) (why : Refusal) (u : Situation S) → t.stream.lending.out ≡ Some l → ends_lease why ≡ true → Kept (then (Commit l n) (Err why) u) (with (lends t.stream (with_none t.stream.lending)))
    kept_back l n why u out ends =
        record { framed = rw ends kept.framed; rising = rw ends kept.rising; took = rw ends kept.took; lent = rw ends (lent_back l (rw out at kept.lent)); area_out = tt; ledgered = kept.ledgered }

    kept_commit : (l : LeaseParts) (n : ℕ) (u : Situation S) → t.stream.lending.out ≡ Some l → n ≤ l.length → Kept (then (Commit l n) (Ok Done) u) (with (moved t.stream n))
    kept_commit l n u out within =
        let k = kept.framed in
        let at = rw out at kept.area_out in
        let s = t.stream.geometry.buffer in
        let a = t.stream.committed in
        let c = frames_committed past in
        let more = area t.memory l.place n in
        let there : more ≡ held (a % s) n t.memory = ap (λ x. area t.memory x n) at.0 ∙ sym (held_area (a % s) n t.memory (omega (arith, k.whole, at.0))) in
        let long : length more ≡ n = length-take n (drop l.place t.memory) ∙ omega (arith, length-drop l.place t.memory, k.whole) in
        record {
          framed = framed_taken_in k n more long there (omega arith);
          rising = kept.rising;
          took =
              let none : (x : ℕ) → length c ≤ x → times x (played past) ≡ 0 = λ x far. let z = k.booked.later x (omega (arith, k.count)) in omega arith in
              rw (map_get_or_append c more (played past) none) kept.took;
          lent = lent_commit n l (rw out at kept.lent);
          area_out = tt;
          ledgered = kept.ledgered;
        }

    kept_take : (u : Situation S) → Kept (then (Take Own) (Ok (Taken (oldest_of t.stream.ledger t.ledger))) u) (with (noted_as t.stream (with_taken t.stream.ledger)))
    kept_take u =
        let n = t.stream.ledger in
        let es = t.ledger in
        let same : (answered past ++ entry_list (oldest_of n es)) ++ entries_of (with_taken n) es ≡ answered past ++ entries_of n es =
        append_assoc (answered past) (entry_list (oldest_of n es)) (entries_of (with_taken n) es) ∙ ap (λ xs. answered past ++ xs) (sym (entries_taken kept.ledgered)) in
        record { framed = rw same kept.framed; rising = rw same kept.rising; took = kept.took; lent = kept.lent; area_out = kept.area_out; ledgered = ledger_taken kept.ledgered }

    -- an entry that is due goes behind the others
    entries_after : (due : Option Entry) → (is_some due ≡ true → t.stream.ledger.count < t.stream.ledger.size) → answered past ++ entries_of (with_noted t.stream.ledger due) (noted t.stream.ledger t.ledger due) ≡ (answered past ++ entries_of t.stream.ledger t.ledger) ++ entry_list due
    entries_after due room =
        ap (λ xs. answered past ++ xs) (entries_noted kept.ledgered due room) ∙ sym (append_assoc (answered past) (entries_of t.stream.ledger t.ledger) (entry_list due))

    kept_tick : (k : ℕ) (r : Answer) (u : Situation S) → t.stream.ledger.count < t.stream.ledger.size → (q : Played p t.stream t.sink t.memory t.ledger k r u.stream u.sink u.ledger) → u.memory ≡ t.memory → Kept (then (Tick Own Own k) r u) u
    kept_tick k r u room q same_memory =
        let b = t.stream in
        let went = q.went in
        let o = b.oldest in
        let f = kept.framed in
        let c = frames_committed past in
        let due = tick_entry b k went (p.stop u.sink) in
        let gone : take went (waiting past) ≡ numbers o went = ap (take went) f.waits_are ∙ take_numbers o went (waits b) q.there in
        let these : take went (waiting_frames b t.memory) ≡ map (λ n. get_or c n silence) (numbers o went) =
        ap (take went) f.lie ∙ take-take went (b.committed - o) (drop o c) q.there ∙ frames_numbered c o went (omega (arith, f.count, f.low, q.there)) in
        let book = entries_after due (λ e. room) in
        let es = answered past ++ entries_of b.ledger t.ledger in
        rw (q.answer, made {sink = u.sink} q.stream refl same_memory q.ledger) (record {
          framed = rw book (framed_due (framed_go f went q.there) due (tick_lost_nothing b k went (p.stop u.sink)));
          rising = rw book (rise_due es (o + went) (rise_later 0 es o (o + went) (omega arith) kept.rising) due (tick_lost_nothing b k went (p.stop u.sink)));
          took = rw (gone, map-append (λ n. get_or c n silence) (played past) (numbers o went)) (took_join p law start.sink t.sink u.sink _ _ kept.took (rw these at (offers_took p law t.sink u.sink _ q.offered)));
          lent = kept.lent;
          area_out = further b.lending.out _ _ _ _ kept.area_out (omega arith);
          ledgered = ledger_noted kept.ledgered due (λ e. room);
        })

    kept_still : (k : ℕ) (s : State) (u : Situation S) → Kept (then (Tick Own Own k) (Ok (Ticked (record { frames = 0; state = s; periods = 0 }))) u) t
    kept_still k s u =
        record { framed = rw (append-nil (played past)) kept.framed; rising = kept.rising; took = rw (append-nil (played past)) kept.took; lent = kept.lent; area_out = kept.area_out; ledgered = kept.ledgered }

    -- all that wait are thrown away, and lie in an entry
    kept_emptied : (k : EntryKind) (c : PlaybackCall) (s : State) (u : Situation S) (sink' : S) → of_playback_call c (Ok Done) ≡ was_emptied → Took p start.sink (map (λ n. get_or (frames_committed past) n silence) (played past)) sink'
        → (ltb 0 (waits t.stream) ≡ true → t.stream.ledger.count < t.stream.ledger.size)
        → Kept (then c (Ok Done) u) (record { stream = emptied t.stream s (loss k t.stream); sink = sink'; memory = t.memory; ledger = noted t.stream.ledger t.ledger (loss k t.stream) })
    kept_emptied k c s u sink' e took room =
        let b = t.stream in
        let f = kept.framed in
        let es = answered past ++ entries_of b.ledger t.ledger in
        elim (cases_Bool (eqb (waits b) 0)) [
          | inl none ↦
              let equal : b.committed ≡ b.oldest = omega (arith, eqb-true (waits b) 0 none, f.low) in
              record {
                framed = rw (e, none) (framed_empty f equal);
                rising = rw (e, none) (rise_later 0 es b.oldest b.committed (omega arith) kept.rising);
                took = rw e took;
                lent = rw e (lent_void b.lending.out kept.lent);
                area_out = tt;
                ledgered = rw none kept.ledgered;
              }
          | inr some ↦
              let waiting_some : 0 < waits b = elim (cases_lt 0 (waits b)) [ inl l ↦ l | inr g ↦ absurd (eqb-false (waits b) 0 some (omega arith)) ] in
              let space : b.ledger.count < b.ledger.size = room (lt-ltb 0 (waits b) waiting_some) in
              let x : Entry = record { kind = k; first = b.oldest; lost = waits b; missed = 0; cause = 0; depth = 0 } in
              let book = entries_after (Some x) (λ y. space) in
              let end_is : b.oldest + waits b ≡ b.committed = omega (arith, f.low) in
              record {
                framed = rw (e, some, book) (framed_lose f x refl refl);
                rising = rw (e, some, book) (subst (λ (top : ℕ). RiseFrom 0 (es ++ (x ∷ [])) top) end_is (rise_more 0 es b.oldest x kept.rising refl));
                took = rw e took;
                lent = rw e (lent_void b.lending.out kept.lent);
                area_out = tt;
                ledgered = rw some (ledger_noted kept.ledgered (Some x) (λ y. space));
              }
        ]

    kept_another : (c : PlaybackCall) (r : Answer) (u : Situation S) → of_playback_call c (Err refusal.Memory) ≡ nothing → Refuses refusal.Memory r t u → Kept (then c r u) u
    kept_another c r u e step = rw (step.0, step.1) (kept_nothing c (Err refusal.Memory) _ e)

    kept_turns : (c : PlaybackCall) (k : CallKind) (r : Answer) (u : Situation S) → ((why : Refusal) → of_playback_call c (Err why) ≡ nothing) → of_playback_call c (Ok Done) ≡ nothing → (reasons : List Reason) → Unless reasons r t.stream u.stream (Turned t.stream k r u.stream) → RestSame t u → Kept (then c r u) u
    kept_turns c k r u e d reasons step rest =
        elim (refused_or_obeyed reasons step) [
          | inl stop ↦ rw (stop.1.0, made stop.1.1 rest.sink_same rest.memory_same rest.ledger_same) (kept_nothing c (Err stop.0) _ (e stop.0))
          | inr go ↦ rw (go.1.answer, made go.1.stream rest.sink_same rest.memory_same rest.ledger_same) (kept_turned c (Ok Done) _ _ d)
        ]

    kept_step : (c : PlaybackCall) (r : Answer) (u : Situation S) → Step p t c r u → Kept (then c r u) u
    kept_step (Begin wanted) r u step =
        let rest = step.1 in
        elim (refused_or_obeyed (no_begin t.stream wanted) step.0) [
          | inl stop ↦ rw (stop.1.0, made stop.1.1 rest.sink_same rest.memory_same rest.ledger_same) (kept_nothing (Begin wanted) (Err stop.0) _ refl)
          | inr go ↦ rw (go.1.answer, made go.1.stream rest.sink_same rest.memory_same rest.ledger_same) (kept_begin wanted _ (none_out _ go.0.0))
        ]
    kept_step (Put Own l j fs) r u step =
        elim (refused_or_obeyed (no_access t.stream t.memory l j (length fs.now)) step.0) [
          | inl stop ↦ rw (stop.1.0, made step.1 step.2 stop.1.1 step.3) (kept_nothing (Put Own l j fs) (Err stop.0) _ refl)
          | inr go ↦ rw (go.1.answer, made step.1 step.2 go.1.memory step.3) (kept_write (Put Own l j fs) _ l j fs.now refl (held_is _ l (not-false _ go.0.1.0)) (ltb-false _ _ go.0.1.1.1.0))
        ]
    kept_step (Put Another l j fs) r u step = kept_another (Put Another l j fs) r u refl step
    kept_step (Mix Own l j fs) r u step =
        let below = area t.memory (l.place + j) (length fs.now) in
        elim (refused_or_obeyed (no_access t.stream t.memory l j (length fs.now)) step.0) [
          | inl stop ↦ rw (stop.1.0, made step.1 step.2 stop.1.1 step.3) (kept_nothing (Mix Own l j fs) (Err stop.0) _ refl)
          | inr go ↦
              let inside = ltb-false _ _ go.0.1.1.1.0 in
              let long : length (mixed_all below fs.now) ≤ length fs.now = omega (arith, length_mixed below fs.now, length-take (length fs.now) (drop (l.place + j) t.memory)) in
              rw (go.1.answer, made step.1 step.2 go.1.memory step.3) (kept_write (Mix Own l j fs) _ l j (mixed_all below fs.now) refl (held_is _ l (not-false _ go.0.1.0)) (omega arith))
        ]
    kept_step (Mix Another l j fs) r u step = kept_another (Mix Another l j fs) r u refl step
    kept_step (Commit l n) r u step =
        let rest = step.1 in
        elim (cases_if (not (holds t.stream.lending.out l)) step.0) [
          | inl stop ↦ rw (stop.1.0, made stop.1.1 rest.sink_same rest.memory_same rest.ledger_same) (kept_nothing (Commit l n) (Err refusal.WrongLease) _ refl)
          | inr on ↦ elim (cases_if (among t.stream.state (Setup ∷ Draining ∷ [])) on.1) [
            | inl stop ↦ rw (stop.1.0, made stop.1.1 rest.sink_same rest.memory_same rest.ledger_same) (kept_nothing (Commit l n) (Err refusal.State) _ refl)
            | inr further-on ↦
                let out = held_is _ l (not-false _ on.0) in
                elim (cases_if (among t.stream.state (Xrun ∷ [])) further-on.1) [
                  | inl stop ↦ rw (stop.1.0, made stop.1.1 rest.sink_same rest.memory_same rest.ledger_same) (kept_back l n refusal.Xrun _ out refl)
                  | inr alive ↦ elim (cases_if (ltb l.length n) alive.1) [
                    | inl stop ↦ rw (stop.1.0, made stop.1.1 rest.sink_same rest.memory_same rest.ledger_same) (kept_back l n refusal.Beyond _ out refl)
                    | inr inside ↦ elim (cases_if (ltb frame_limit (t.stream.committed + n)) inside.1) [
                      | inl stop ↦ rw (stop.1.0, made stop.1.1 rest.sink_same rest.memory_same rest.ledger_same) (kept_back l n refusal.Limit _ out refl)
                      | inr go ↦ rw (go.1.answer, made go.1.stream rest.sink_same rest.memory_same rest.ledger_same) (kept_commit l n _ out (ltb-false _ _ inside.0))
                    ]
                  ]
                ]
          ]
        ]
    kept_step Start r u step = kept_turns Start call.Start r u (λ why. refl) refl (refusing (decides t.stream call.Start) ∷ []) step.0 step.1
    kept_step (Tick Own Own k) r u step =
        elim (refused_or_obeyed (not (eqb (length t.memory) t.stream.geometry.buffer) ⇒ refusal.Memory ∷ not (eqb (length t.ledger) t.stream.geometry.ledger) ⇒ refusal.Memory ∷ []) step.0) [
          | inl stop ↦ rw (stop.1.0, made (ap (λ x. x.0) stop.1.1) (ap (λ x. x.1) stop.1.1) step.1 (ap (λ x. x.2) stop.1.1)) (kept_nothing (Tick Own Own k) (Err stop.0) _ refl)
          | inr go ↦ elim (cases_if (moves (decides t.stream call.Tick)) go.1) [
            | inl moving ↦ elim (cases_if (is_full t.stream.ledger) moving.1) [
              | inl stop ↦ rw (stop.1.0, made (ap (λ x. x.0) stop.1.1) (ap (λ x. x.1) stop.1.1) step.1 (ap (λ x. x.2) stop.1.1)) (kept_nothing (Tick Own Own k) (Err refusal.LedgerFull) _ refl)
              | inr play ↦ kept_tick k r u (leb-false _ _ play.0) play.1 step.1
            ]
            | inr still ↦ rw (still.1.answer, made (ap (λ x. x.0) still.1.same) (ap (λ x. x.1) still.1.same) step.1 (ap (λ x. x.2) still.1.same)) (kept_still k t.stream.state _)
          ]
        ]
    kept_step (Tick Own Another k) r u step = kept_another (Tick Own Another k) r u refl step
    kept_step (Tick Another g k) r u step = kept_another (Tick Another g k) r u refl step
    kept_step Pause r u step = kept_turns Pause call.Pause r u (λ why. refl) refl (refusing (decides t.stream call.Pause) ∷ []) step.0 step.1
    kept_step Resume r u step = kept_turns Resume call.Resume r u (λ why. refl) refl (refusing (decides t.stream call.Resume) ∷ []) step.0 step.1
    kept_step Drain r u step = kept_turns Drain call.Drain r u (λ why. refl) refl (is_some t.stream.lending.out ⇒ refusal.LeaseOut ∷ refusing (decides t.stream call.Drain) ∷ []) step.0 step.1
    kept_step (Drop Own) r u step =
        elim (refused_or_obeyed (no_emptying t.stream call.Drop t.ledger) step.0) [
          | inl stop ↦ rw (stop.1.0, made (ap (λ x. x.0) stop.1.1) step.1 step.2 (ap (λ x. x.1) stop.1.1)) (kept_nothing (Drop Own) (Err stop.0) _ refl)
          | inr go ↦ rw (go.1.answer, made go.1.stream step.1 step.2 go.1.ledger) (kept_emptied kinds.Dropped (Drop Own) _ _ t.sink refl kept.took (has_room t.stream.ledger (waits t.stream) go.0.1.1.0))
        ]
    kept_step (Drop Another) r u step = kept_another (Drop Another) r u refl step
    kept_step (Prepare Own) r u step =
        elim (refused_or_obeyed (no_emptying t.stream call.Prepare t.ledger) step.0) [
          | inl stop ↦ rw (stop.1.0, made (ap (λ x. x.0) stop.1.1) (ap (λ x. x.1) stop.1.1) step.1 (ap (λ x. x.2) stop.1.1)) (kept_nothing (Prepare Own) (Err stop.0) _ refl)
          | inr go ↦ rw (go.1.0.answer, made {sink = u.sink} go.1.0.stream refl step.1 go.1.0.ledger) (kept_emptied kinds.Prepared (Prepare Own) _ _ u.sink refl (took_heal p law start.sink t.sink u.sink _ kept.took go.1.1) (has_room t.stream.ledger (waits t.stream) go.0.1.1.0))
        ]
    kept_step (Prepare Another) r u step = kept_another (Prepare Another) r u refl step
    kept_step (Take Own) r u step =
        let rest = step.1 in
        elim (refused_or_obeyed (not (eqb (length t.ledger) t.stream.geometry.ledger) ⇒ refusal.Memory ∷ []) step.0) [
          | inl stop ↦ rw (stop.1.0, made stop.1.1 rest.sink_same rest.memory_same rest.ledger_same) (kept_nothing (Take Own) (Err stop.0) _ refl)
          | inr go ↦ rw (go.1.answer, made go.1.stream rest.sink_same rest.memory_same rest.ledger_same) (kept_take _)
        ]
    kept_step (Take Another) r u step = kept_another (Take Another) r u refl step

  kept_always : FreshStart → (h : Past S) (end : Situation S) → Leads (Step p) start h end → Kept h end
  kept_always up [] end led = rw led (kept_start up)
  kept_always up (m ∷ past) end led = rw led.2 (kept_step past m.before (kept_always up past m.before led.0) m.call m.answer m.after led.1)

  means_always : FreshStart → (h : Past S) (end : Situation S) → Leads (Step p) start h end → Means end.stream
  means_always up =
      holds_along (Step p) (λ t. Means t.stream) (rw up.fresh_stream (refl, refl))
      (λ past m led step means. means_step p m.before m.after m.answer (kept_always up past m.before led).framed.low means m.call step)

  pub playback_accounted : (h : Past S) (end : Situation S) → FreshStart → Leads (Step p) start h end → PlaybackAccount p start h end
  playback_accounted h end up led =
      let kept = kept_always up h end led in
      let f = kept.framed in
      let g = end.stream.geometry in
      let told : entries h end ≡ answered h ++ entries_of end.stream.ledger end.ledger = ap (λ xs. answered h ++ xs) (further_are kept.ledgered) in
      let waits_count : length (waiting h) ≡ end.stream.committed - end.stream.oldest = ap length f.waits_are ∙ length_numbers end.stream.oldest (end.stream.committed - end.stream.oldest) in
      record {
        each_committed_frame_once = λ n inside. rw (told, f.waits_are) (booked_once f.booked f.low n (omega (arith, f.count)));
        no_other_frame = λ n far. rw (told, f.waits_are) (booked_no_other f.booked f.low f.top n (omega (arith, f.count)));
        heard_is_what_was_played = kept.took.heard_grew;
        played_in_commit_order = f.ordered.rises;
        each_lease_ends_once = lent_once kept.lent;
        leases_are_numbered = kept.lent.numbered;
        hardware_keeps_out = λ x inside n some same.
            let there = times_within n _ _ (rw f.waits_are at some) in
            let at = area_places _ _ _ _ x kept.area_out inside in
            places_differ g.buffer n at.0 f.sized (omega (arith, f.low)) (omega (arith, f.low)) (same ∙ sym at.3);
        ticks_leave_the_memory = at_each_moment (Step p) _ (λ past m before step. tick_leaves_memory p m.before m.after m.answer m.call step) h end led;
        lost_stretches_rise = rw told kept.rising;
        states_mean_what_they_say = rw waits_count (means_always up h end led);
        no_lease_meets_a_wrong_state = at_each_moment (Step p) _ (λ past m before step. no_wrong_state p m.before m.after m.answer (means_always up past m.before before) m.call step) h end led;
        counts_are_the_words = (sym f.count, sym waits_count);
        avail_is_what_is_free =
            rw (g.doubled, waits_count) (playback_free g.buffer end.stream.oldest end.stream.committed g.lawful.0 f.low (omega (arith, f.fits)));
      }
