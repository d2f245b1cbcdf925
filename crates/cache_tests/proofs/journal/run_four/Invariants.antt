use Rattle.cache_tests.proofs.journal.run_four.Given as goal

abbrev pub ghosts-four_threads-M-Marks : goal.ghosts-four_threads-M-Marks
ghosts-four_threads-M-Marks g a = record { limits = a.limits }

abbrev pub ghosts-four_threads-M-Ledger : goal.ghosts-four_threads-M-Ledger
ghosts-four_threads-M-Ledger g a = record { name = a.blanks.calls.name; parts = a.blanks.calls.parts }

abbrev pub ghosts-four_threads-G-Ledger : goal.ghosts-four_threads-G-Ledger
ghosts-four_threads-G-Ledger g a = record { name = a.blanks.given.name; parts = a.blanks.given.parts }

abbrev pub ghosts-four_threads-E-Ledger : goal.ghosts-four_threads-E-Ledger
ghosts-four_threads-E-Ledger g a = record { name = a.blanks.empty.name; parts = a.blanks.empty.parts }

abbrev pub ghosts-four_threads-O-Ledger : goal.ghosts-four_threads-O-Ledger
ghosts-four_threads-O-Ledger g a = record { name = a.blanks.opened.name; parts = a.blanks.opened.parts }
