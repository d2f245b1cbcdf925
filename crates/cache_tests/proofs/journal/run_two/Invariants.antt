use Rattle.cache_tests.proofs.journal.run_two.Given as goal

abbrev pub ghosts-two_threads-M-Marks : goal.ghosts-two_threads-M-Marks
ghosts-two_threads-M-Marks g a = record { limits = a.limits }

abbrev pub ghosts-two_threads-M-Ledger : goal.ghosts-two_threads-M-Ledger
ghosts-two_threads-M-Ledger g a = record { name = a.blanks.calls.name; parts = a.blanks.calls.parts }

abbrev pub ghosts-two_threads-G-Ledger : goal.ghosts-two_threads-G-Ledger
ghosts-two_threads-G-Ledger g a = record { name = a.blanks.given.name; parts = a.blanks.given.parts }

abbrev pub ghosts-two_threads-E-Ledger : goal.ghosts-two_threads-E-Ledger
ghosts-two_threads-E-Ledger g a = record { name = a.blanks.empty.name; parts = a.blanks.empty.parts }

abbrev pub ghosts-two_threads-O-Ledger : goal.ghosts-two_threads-O-Ledger
ghosts-two_threads-O-Ledger g a = record { name = a.blanks.opened.name; parts = a.blanks.opened.parts }
