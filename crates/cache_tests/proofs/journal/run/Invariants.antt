use Rattle.cache_tests.proofs.journal.run.Given as goal

abbrev pub ghosts-played-M-Marks : goal.ghosts-played-M-Marks
ghosts-played-M-Marks g a = record { limits = a.limits }

abbrev pub ghosts-played-M-Ledger : goal.ghosts-played-M-Ledger
ghosts-played-M-Ledger g a = record { name = a.blanks.calls.name; parts = a.blanks.calls.parts }

abbrev pub ghosts-played-G-Ledger : goal.ghosts-played-G-Ledger
ghosts-played-G-Ledger g a = record { name = a.blanks.given.name; parts = a.blanks.given.parts }

abbrev pub ghosts-played-E-Ledger : goal.ghosts-played-E-Ledger
ghosts-played-E-Ledger g a = record { name = a.blanks.empty.name; parts = a.blanks.empty.parts }

abbrev pub ghosts-played-O-Ledger : goal.ghosts-played-O-Ledger
ghosts-played-O-Ledger g a = record { name = a.blanks.opened.name; parts = a.blanks.opened.parts }
