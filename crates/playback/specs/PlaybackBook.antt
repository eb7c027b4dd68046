-- The numbers of a playback stream.
--   book_of   its numbers, as the rules speak of them
-- Assumes nothing.
use Rattle.account.specs.PlaybackBook.{Book}
use Rattle.playback.specs.declared.playback.Playback.{Playback}
use Rattle.ledger.specs.LedgerSpans.{numbers_of}

abbrev pub book_of : Playback → Book
book_of p =
    record { geometry = p.geometry; state = p.state; committed = p.committed; oldest = p.oldest; lending = p.lending; ledger = numbers_of p.ledger }
