use Rattle.account.proofs.Both.{accounted}
use Rattle.account.proofs.account_stands.Goals as goal

pub returns : goal.returns
returns g c = λ start h end up led. accounted g.S.Sink.shows g.R.Source.shows start g.met.S.Sink.lawful h end up led
