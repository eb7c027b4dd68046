-- One call more in a run, and what holds along a history.
use Rattle.std.proofs.Common.{ℕ, ◌+◌, ◌<◌, List, [], ◌∷◌, ◌++◌, length, get_or, take, set, sym, refl, ap, ◌∙◌}
use Rattle.std.proofs.lemmas.List.{reverse-append, take_more, take_more_set}
use Rattle.account.specs.Histories.{Ran, Moment, History, Leads, EachMoment}
use Rattle.calls.specs.Answers.{Answer}

module _ {T C : Type 0} (Step : T → C → Answer → T → Type 0) where
  ran_more : {start t u : T} {past : History T C} {cs : List C} {rs : List Answer} (c : C) (r : Answer) → Ran Step start past cs rs t → Step t c r u → Ran Step start past (cs ++ (c ∷ [])) (rs ++ (r ∷ [])) u
  ran_more {t = t} {u = u} {cs = cs} {rs = rs} c r ran step =
      record {
        since = record { before = t; call = c; answer = r; after = u } ∷ ran.since;
        leads = (ran.leads, step, refl);
        calls_made = ap (λ x. c ∷ x) ran.calls_made ∙ sym (reverse-append cs (c ∷ []));
        answers_told = ap (λ x. r ∷ x) ran.answers_told ∙ sym (reverse-append rs (r ∷ []));
      }

  pub ran_next : {start t u : T} {past : History T C} (cs : List C) (rs : List Answer) (i : ℕ) (d : C) (r : Answer) → i < length cs → i < length rs → Ran Step start past (take i cs) (take i rs) t → Step t (get_or cs i d) r u → Ran Step start past (take (i + 1) cs) (take (i + 1) (set rs i r)) u
  ran_next cs rs i d r inside room ran step = rw (take_more cs i d inside, take_more_set rs i r room) (ran_more (get_or cs i d) r ran step)

  -- what holds at the start and which each call keeps holds at the end
  pub holds_along : {start : T} (Q : T → Type 0) → Q start → ((past : History T C) (m : Moment T C) → Leads Step start past m.before → Step m.before m.call m.answer m.after → Q m.before → Q m.after)
      → (h : History T C) (end : T) → Leads Step start h end → Q end
  holds_along Q first keep [] end led = rw led first
  holds_along Q first keep (m ∷ past) end led = rw led.2 (keep past m led.0 led.1 (holds_along Q first keep past m.before led.0))

  -- what each call brings about, wherever the history led before it, holds of each moment
  pub at_each_moment : {start : T} (P : History T C → Moment T C → Type 0) → ((past : History T C) (m : Moment T C) → Leads Step start past m.before → Step m.before m.call m.answer m.after → P past m)
      → (h : History T C) (end : T) → Leads Step start h end → EachMoment P h
  at_each_moment P brings [] end led = tt
  at_each_moment P brings (m ∷ past) end led = (brings past m led.0 led.1, at_each_moment P brings past m.before led.0)
