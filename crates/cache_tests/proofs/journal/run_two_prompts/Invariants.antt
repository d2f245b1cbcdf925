use Rattle.cache_tests.proofs.journal.run_two_prompts.Given as goal

abbrev pub ghosts-two_prompts-M-Marks : goal.ghosts-two_prompts-M-Marks
ghosts-two_prompts-M-Marks g a = record { limits = a.limits }

abbrev pub ghosts-two_prompts-M-Ledger : goal.ghosts-two_prompts-M-Ledger
ghosts-two_prompts-M-Ledger g a = record { name = a.blanks.calls.name; parts = a.blanks.calls.parts }

abbrev pub ghosts-two_prompts-G-Ledger : goal.ghosts-two_prompts-G-Ledger
ghosts-two_prompts-G-Ledger g a = record { name = a.blanks.given.name; parts = a.blanks.given.parts }

abbrev pub ghosts-two_prompts-E-Ledger : goal.ghosts-two_prompts-E-Ledger
ghosts-two_prompts-E-Ledger g a = record { name = a.blanks.empty.name; parts = a.blanks.empty.parts }

abbrev pub ghosts-two_prompts-O-Ledger : goal.ghosts-two_prompts-O-Ledger
ghosts-two_prompts-O-Ledger g a = record { name = a.blanks.opened.name; parts = a.blanks.opened.parts }
