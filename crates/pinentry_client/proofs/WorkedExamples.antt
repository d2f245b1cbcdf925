-- Worked examples: two prompts, the launch of the first of which failed, and whose second one has a child that ends without a word.
use Rattle.std.proofs.Common.{◌≡◌, ℕ, List, [], ◌∷◌, Some, None, Err, refl, inl, arith}
use Rattle.{agent_ask.specs.{Events.{Call, Start, Shut}, declared.prompt.spec.PromptSpec.PromptSpec}, agent_ports.specs.{Launches.Launches, Leads.{Leads, none, one}, Sides.Side}, assuan_client.specs.{Answers.ReadOn, Connections.Connection}}
use Rattle.{assuan_client.specs.Skipping.nothing, assuan_line.specs.{Next.next_of, declared.reader.TheConstants.BUDGET}}
use Rattle.pinentry_client.specs.{Children.{ArePrompts, next, HaveTheirChildren}, Dialogues.{PinentryDoes, unlaunched, started, shut, shut_alone}, States.idle, Whole.{AreQuestions, IsOnePrompt}, declared.answers.Trouble.TheVariants.Broken}
use Rattle.pinentry_client.proofs.Children.{their_children}
use Rattle.agent_ask.specs.declared.prompt.prompter.Opened.TheVariants as opened
use Rattle.assuan_client.specs.Answers as answers
use Rattle.assuan_client.specs.declared.answer.Answer.TheVariants as answer
use Rattle.assuan_client.specs.declared.answer.State.TheVariants as state
use Rattle.assuan_line.specs.Skipping as skipping
use Rattle.assuan_line.specs.declared.breach.Breach.TheVariants as breach
use Rattle.assuan_line.specs.declared.reader.Took.TheVariants as took
use Rattle.pinentry_client.specs.Talking as talking

module _ (program : List ℕ) (spec : PromptSpec) where
  -- no bytes, of which all are known
  abbrev empty : Side
  empty = record { bytes = Some []; faults = 0 }

  abbrev fresh : Connection
  fresh = record { input = empty; output = empty; reader = record { ahead = []; left = BUDGET; ended = None }; tally = nothing; state = state.Ready }

  abbrev ended : Connection
  ended = record { input = empty; output = empty; reader = record { ahead = []; left = BUDGET; ended = Some took.End }; tally = nothing; state = state.Broken }

  -- the launcher before and after each step
  abbrev at_first : Launches
  at_first = record { coming = Some ([] ∷ []); launched = Some []; finished = Some []; faults = 0 }

  abbrev after_failure : Launches
  after_failure = record { coming = Some ([] ∷ []); launched = Some []; finished = Some []; faults = 1 }

  abbrev with_child : Launches
  with_child = record { coming = Some []; launched = Some (program ∷ []); finished = Some []; faults = 1 }

  abbrev at_last : Launches
  at_last = record { coming = Some []; launched = Some (program ∷ []); finished = Some (record { left = []; written = [] } ∷ []); faults = 1 }

  no_line : next_of [] ≡ took.End
  unfolding next_of
  no_line = refl

  reads_end : ReadOn nothing (answer.Broken breach.Ended) fresh ended
  reads_end = record {
    took = took.End;
    read = record {
      known = record {
        lines = [];
        reads = record { later = []; skipped = skipping.Skipped.none; stops = tt; next = (no_line, refl, omega arith) };
        says = answers.ended;
        asked = λ word text is. absurd (cc is);
      };
      budget = refl;
      needed = inl refl;
      progress = tt;
      spent = λ is. absurd (cc is);
      fault = λ is. absurd (cc is);
      faults = omega arith;
      ended = refl;
    };
    ended = refl;
    fault = λ is. absurd (cc is);
    no_write = λ is. cc is;
    output = refl;
    state = refl;
    cleared = λ other. refl;
  }

  abbrev calls : List Call
  calls = Start spec opened.Failed ∷ Shut ∷ Start spec (opened.Broken breach.Ended) ∷ Shut ∷ []

  calls_lead : Leads PinentryDoes (idle program at_first) calls (idle program at_last)
  calls_lead =
      one (unlaunched {launches = after_failure} (record { coming = refl; launched = refl; finished = refl; rose = omega arith; faults = omega arith }))
      (one shut_alone
      (one (started {launches = with_child} {fresh = fresh} {conn = ended} (Err (Broken breach.Ended))
      (record {
        fresh = record { no_read_failed = refl; no_write_failed = refl; unwritten = refl };
        reader = refl;
        tally = refl;
        state = refl;
        coming = refl;
        launched = refl;
        finished = refl;
        faults = omega arith;
      })
      (talking.StartTalk.stopped (answer.Broken breach.Ended) reads_end refl))
      (one (shut {launches = at_last} {output = empty} refl (record { finished = refl; coming = refl; launched = refl; rose = omega arith; faults = omega arith })) none)))

  abbrev prompts : List (List Call)
  prompts = (Start spec opened.Failed ∷ Shut ∷ []) ∷ (Start spec (opened.Broken breach.Ended) ∷ Shut ∷ []) ∷ []

  are_prompts : ArePrompts prompts calls
  are_prompts = next (IsOnePrompt.start AreQuestions.shut) (next (IsOnePrompt.start AreQuestions.shut) ArePrompts.none)

  -- the second one has the one child
  have_one_child : HaveTheirChildren program prompts at_first at_last
  have_one_child = their_children (idle program at_first) (idle program at_last) are_prompts calls_lead
