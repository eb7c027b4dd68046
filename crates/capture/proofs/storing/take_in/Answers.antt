use Rattle.std.proofs.Common.{◌≡◌, ℕ, ◌+◌, ◌-◌, ◌≤◌, min, length, take, drop, arith, rules}
use Rattle.std.proofs.lemmas.List.{length-take}
use Rattle.ring.proofs.Moving.{taken_in}
use Rattle.sources.specs.Source.{Gives}
use Rattle.capture.proofs.Coming.{first_came, others_came, came_within, gives_both}
use Rattle.capture.proofs.storing.take_in.Goals as goal

pub overflow_sub-k : goal.overflow_sub-k
overflow_sub-k g c =
    let s = c.args.span.now in
    let coming = g.R.Source.shows.coming c.args.source.now in
    let long = length-take (min c.args.k (s.size - s.count)) coming in
    search (rules, long)

pub returns : goal.returns
returns g c =
    let p = g.R.Source.shows in
    let s = c.args.span.now in
    let k = c.args.k in
    let room : ℕ = s.size - s.count in
    let coming = p.coming c.args.source.now in
    let one = first_came k room coming in
    let two = others_came k room coming in
    let within = came_within k room coming in
    let kept : c.store-kept.result ≡ length (take room (take k coming)) = search rules in
    let lost : c.lose-lost.result ≡ length (drop room (take k coming)) = search rules in
    let inside : s.count + c.store-kept.result ≤ s.size = omega arith in
    let numbers = taken_in c.take_in.result s c.store-kept.result c.take_in.new.self inside c.take_in.ensures.answer in
    let first : Gives p c.args.source.now (take (min k room) coming) c.store-kept.new.source = search rules in
    let others : Gives p c.store-kept.new.source (take (k - length (take (min k room) coming)) (drop (min k room) coming)) c.lose-lost.new.source = search rules in
    record {
      kept = kept;
      lost = lost;
      rule = gives_both p c.args.source.now c.store-kept.new.source c.lose-lost.new.source coming (min k room) k (omega arith) first others;
      memory = search rules;
      numbers = numbers;
      within = (omega arith, omega arith);
    }
