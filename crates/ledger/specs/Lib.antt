pub mod LedgerSpans
