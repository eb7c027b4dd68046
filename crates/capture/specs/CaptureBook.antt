-- The numbers of a capture stream.
--   book_of   its numbers, as the rules speak of them
-- Assumes nothing.
use Rattle.account.specs.CaptureBook.{Book}
use Rattle.capture.specs.declared.capture.Capture.{Capture}
use Rattle.ledger.specs.LedgerSpans.{numbers_of}

abbrev pub book_of : Capture → Book
book_of p =
    record { geometry = p.geometry; state = p.state; given_up = p.given; oldest = p.oldest; unread = p.unread; lending = p.lending; ledger = numbers_of p.ledger }
