use Rattle.std.proofs.Common.{◌≡◌, length, Some, Err, sym, refl, ap, ◌∙◌, rules}
use Rattle.std.specs.Result.{result_err}
use Rattle.calls.specs.Told.{told}
use Rattle.account.specs.Playback.{no_access}
use Rattle.playback.specs.PlaybackBook.{book_of}
use Rattle.account.proofs.Refusals.{refused_by}
use Rattle.playback.proofs.playback.Playback.mix_by_parts.Goals as goal

pub returns-in_err-check_access : goal.returns-in_err-check_access
returns-in_err-check_access c =
    let why = c.in_err-check_access.field-0.0 in
    let first : result_err c.check_access.result ≡ Some why = ap result_err c.in_err-check_access.was in
    let answer : told c.from_residual.result ≡ Err why = search rules in
    refused_by (no_access (book_of c.args.self.now) c.args.memory.now c.args.lease c.args.position (length c.args.frames.now)) why _ _ _ _ (sym c.check_access.ensures.answer ∙ first) answer refl
