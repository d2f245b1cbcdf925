-- A passphrase that is given was one of the replies.
use Rattle.std.{proofs.{Common.{◌≡◌, ◌⊎◌, inl, inr, ◌∷◌, [], ℕ, List, Bool, true, false, Option, refl, subst, arith, rules, Contains}, lemmas.{Bool.false≢true, List.Elements.Contains-append_right}}, specs.Option.is_some}
use Rattle.{passphrase_talk.specs.{Contacts.Contacts, declared.{connector.Agents.{Agents, TheVariants.{One, Both}}, told.Told.Told}}, passphrase_words.specs.{Tasks.TaskValue, declared.task.Act.Act}}
use Rattle.session_options.specs.OptionValues.{EnvWords}
use Rattle.passphrase_client.specs.{Laws.{is_question, Visited, visited, visits_of}, Runs.{ComesTo, DoesStep, Reply, Settles, gives, goes_on, notes, holds}, Steps.{steps_of, steps_to_give, looks}, Verdicts.{verdict, is_one_line, emptied_verdict}}
use Rattle.passphrase_client.specs.declared.{course.Course.TheVariants.Gives, ending.{Ending.Ending, Lifetime.Lifetime}, steps.Step.Step, verdict.Verdict.Verdict}
use Rattle.passphrase_client.specs.declared.steps.Step.TheVariants as step
use Rattle.passphrase_client.specs.declared.verdict.Verdict.TheVariants as verdict_is
use Rattle.passphrase_talk.specs.declared.told.Told.TheVariants as told
use Rattle.passphrase_words.specs.declared.task.Act.TheVariants as act

-- what is held is kept behind a question alone
abbrev pub asks_first : List Step → Bool
asks_first [] = true
asks_first (step.Keep ∷ steps) = false
asks_first (step.Ask ∷ steps) = true
asks_first (step.Look place ∷ steps) = asks_first steps
asks_first (step.Forget place ∷ steps) = asks_first steps
asks_first (step.Store ∷ steps) = asks_first steps
asks_first (step.Probe ∷ steps) = asks_first steps

-- the reply was this passphrase, which can be one line, to a question
pub record IsReply (at : Step) (reply : Told) (secret : List ℕ) : Type 0 where
  pub is : reply ≡ told.Passphrase secret
  pub asks : is_question at ≡ true
  pub one_line : is_one_line secret ≡ true

-- one of the replies was, in one of these contacts
pub record AreReplies (task : TaskValue) (terminal : EnvWords) (visits : List (Visited task terminal)) (replies : List Reply) (secret : List ℕ) : Type 0 where
  pub contact : Visited task terminal
  pub made : Contains visits contact
  pub asks : is_question contact.to ≡ true
  pub told_is : contact.told ≡ told.Passphrase secret
  pub has : Contains replies (record { to = contact.to; told = told.Passphrase secret })
  pub one_line : is_one_line secret ≡ true

-- what comes of a step is the verdict on its reply, or on how an empty passphrase was forgotten
settled : (empty : Bool) (task : TaskValue) (terminal : EnvWords) (at : Step) (held : List ℕ) (reply : Told) (what : Verdict) (before after : Contacts)
    → Settles empty task terminal at held reply what before after → (what ≡ verdict task.act held at reply) ⊎ ((failed : Option Ending) × (what ≡ emptied_verdict at failed))
settled false task terminal at held reply what before after settles = inl settles.0
settled true task terminal at held reply what before after settles = inr (_, settles.2)

emptied_gives : (at : Step) (failed : Option Ending) (secret : List ℕ) (lasts : Lifetime) → verdict_is.Gives secret lasts ≡ emptied_verdict at failed → ⊥
emptied_gives at failed secret lasts is = grind (arith, rules)

pub emptied_holds : (at : Step) (failed : Option Ending) (secret : List ℕ) → verdict_is.Holds secret ≡ emptied_verdict at failed → ⊥
emptied_holds at failed secret is = grind (arith, rules)

pub emptied_notes : (at : Step) (failed : Option Ending) (it : Ending) → verdict_is.Notes it ≡ emptied_verdict at failed → ⊥
emptied_notes at failed it is = grind (arith, rules)

emptied_ask : (failed : Option Ending) → verdict_is.GoesOn ≡ emptied_verdict step.Ask failed → ⊥
emptied_ask failed is = grind (arith, rules)

gives_by : (act : Act) (held : List ℕ) (at : Step) (reply : Told) (secret : List ℕ) (lasts : Lifetime) → verdict_is.Gives secret lasts ≡ verdict act held at reply → IsReply at reply secret ⊎ ((at ≡ step.Keep) × (secret ≡ held))
gives_by act held at reply secret lasts is = grind (arith, rules)

holds_by : (act : Act) (held : List ℕ) (at : Step) (reply : Told) (secret : List ℕ) → verdict_is.Holds secret ≡ verdict act held at reply → IsReply at reply secret
holds_by act held at reply secret is = grind (arith, rules)

ask_goes : (act : Act) (held : List ℕ) (reply : Told) → verdict_is.GoesOn ≡ verdict act held step.Ask reply → ⊥
ask_goes act held reply is = grind (arith, rules)

notes_look : (act : Act) (held : List ℕ) (at : Step) (reply : Told) (it : Ending) (steps : List Step) → verdict_is.Notes it ≡ verdict act held at reply → asks_first (at ∷ steps) ≡ true
    → asks_first steps ≡ true
notes_look act held step.Ask reply it steps is first = grind (arith, rules)
notes_look act held (step.Look place) reply it steps is first = first
notes_look act held (step.Forget place) reply it steps is first = first
notes_look act held step.Store reply it steps is first = first
notes_look act held step.Probe reply it steps is first = first
notes_look act held step.Keep reply it steps is first = absurd (false≢true first)

gives_reply : {task : TaskValue} {terminal : EnvWords} {at : Step} {held secret : List ℕ} {lasts : Lifetime} {reply : Told} {before after : Contacts}
    → DoesStep task terminal at held reply (verdict_is.Gives secret lasts) before after → IsReply at reply secret ⊎ ((at ≡ step.Keep) × (secret ≡ held))
gives_reply {task = task} {at = at} {held = held} {secret = secret} {lasts = lasts} {reply = reply} does =
    elim (settled _ _ _ _ _ _ _ _ _ does.settles) [ inl is ↦ gives_by task.act held at reply secret lasts is | inr emptied ↦ absurd (emptied_gives at emptied.0 secret lasts emptied.1) ]

holds_reply : {task : TaskValue} {terminal : EnvWords} {at : Step} {held secret : List ℕ} {reply : Told} {before after : Contacts}
    → DoesStep task terminal at held reply (verdict_is.Holds secret) before after → IsReply at reply secret
holds_reply {task = task} {at = at} {held = held} {secret = secret} {reply = reply} does =
    elim (settled _ _ _ _ _ _ _ _ _ does.settles) [ inl is ↦ holds_by task.act held at reply secret is | inr emptied ↦ absurd (emptied_holds at emptied.0 secret emptied.1) ]

goes_on_behind : {task : TaskValue} {terminal : EnvWords} (at : Step) (steps : List Step) {held : List ℕ} {reply : Told} {before after : Contacts}
    → DoesStep task terminal at held reply verdict_is.GoesOn before after → asks_first (at ∷ steps) ≡ true → asks_first steps ≡ true
goes_on_behind {task = task} step.Ask steps {held = held} {reply = reply} does first =
    absurd (elim (settled _ _ _ _ _ _ _ _ _ does.settles) [ inl is ↦ ask_goes task.act held reply is | inr emptied ↦ emptied_ask emptied.0 emptied.1 ])
goes_on_behind (step.Look place) steps does first = first
goes_on_behind (step.Forget place) steps does first = first
goes_on_behind step.Store steps does first = first
goes_on_behind step.Probe steps does first = first
goes_on_behind step.Keep steps does first = absurd (false≢true first)

notes_behind : {task : TaskValue} {terminal : EnvWords} {at : Step} (steps : List Step) {held : List ℕ} {reply : Told} {it : Ending} {before after : Contacts}
    → DoesStep task terminal at held reply (verdict_is.Notes it) before after → asks_first (at ∷ steps) ≡ true → asks_first steps ≡ true
notes_behind {task = task} {at = at} steps {held = held} {reply = reply} {it = it} does first =
    elim (settled _ _ _ _ _ _ _ _ _ does.settles) [ inl is ↦ notes_look task.act held at reply it steps is first | inr emptied ↦ absurd (emptied_notes at emptied.0 it emptied.1) ]

gives_ask_first : (repeats lasts : Bool) (agents : Agents) → asks_first (steps_to_give repeats lasts agents) ≡ true
gives_ask_first false false One = refl
gives_ask_first false false Both = refl
gives_ask_first false true One = refl
gives_ask_first false true Both = refl
gives_ask_first true false One = refl
gives_ask_first true false Both = refl
gives_ask_first true true One = refl
gives_ask_first true true Both = refl

looks_ask_first : (agents : Agents) → asks_first (looks agents) ≡ true
looks_ask_first One = refl
looks_ask_first Both = refl

pub lists_ask_first : (act : Act) (agents : Agents) → asks_first (steps_of act agents) ≡ true
lists_ask_first (act.Give repeats true ttl feeds) agents = looks_ask_first agents
lists_ask_first (act.Give repeats false ttl feeds) agents = gives_ask_first repeats (is_some ttl) agents
lists_ask_first act.Cached agents = looks_ask_first agents
lists_ask_first act.Forget One = refl
lists_ask_first act.Forget Both = refl
lists_ask_first act.ForgetAll One = refl
lists_ask_first act.ForgetAll Both = refl
lists_ask_first act.Store One = refl
lists_ask_first act.Store Both = refl

first_is : {task : TaskValue} {terminal : EnvWords} {at : Step} {held secret : List ℕ} {reply : Told} {what : Verdict} {before after : Contacts} (visits : List (Visited task terminal))
    (replies : List Reply) (does : DoesStep task terminal at held reply what before after) → IsReply at reply secret
    → AreReplies task terminal (visited does ∷ visits) (record { to = at; told = reply } ∷ replies) secret
first_is visits replies does reply = record {
  contact = visited does;
  made = (0, omega arith, refl);
  asks = reply.asks;
  told_is = reply.is;
  has = rw reply.is (0, omega arith, refl);
  one_line = reply.one_line;
}

further_is : {task : TaskValue} {terminal : EnvWords} (visit : Visited task terminal) (reply : Reply) (visits : List (Visited task terminal)) {replies : List Reply} {secret : List ℕ}
    → AreReplies task terminal visits replies secret → AreReplies task terminal (visit ∷ visits) (reply ∷ replies) secret
further_is visit reply visits {replies = replies} {secret = secret} are = record {
  contact = are.contact;
  made = Contains-append_right (visit ∷ []) visits are.contact are.made;
  asks = are.asks;
  told_is = are.told_is;
  has = Contains-append_right (reply ∷ []) replies (record { to = are.contact.to; told = told.Passphrase secret }) are.has;
  one_line = are.one_line;
}

-- it was a reply, or is what was held
pub reply_or_held : {task : TaskValue} {terminal : EnvWords} {steps : List Step} {held secret : List ℕ} {lasts : Lifetime} {noted : Option Ending} {before after : Contacts} {replies : List Reply}
    (comes : ComesTo task terminal steps held noted before replies (Gives secret lasts) after) → AreReplies task terminal (visits_of comes) replies secret ⊎ (secret ≡ held)
reply_or_held (gives going does) = elim (gives_reply does) [ inl reply ↦ inl (first_is [] [] does reply) | inr kept ↦ inr kept.1 ]
reply_or_held (goes_on {step = at} {told = reply} going does more) =
    elim (reply_or_held more) [ inl are ↦ inl (further_is (visited does) (record { to = at; told = reply }) (visits_of more) are) | inr held ↦ inr held ]
reply_or_held (notes {step = at} {told = reply} going does more) =
    elim (reply_or_held more) [ inl are ↦ inl (further_is (visited does) (record { to = at; told = reply }) (visits_of more) are) | inr held ↦ inr held ]
reply_or_held (holds {step = at} {told = reply} {others = others} going does more) =
    inl (elim (reply_or_held more) [
      | inl are ↦ further_is (visited does) (record { to = at; told = reply }) (visits_of more) are
      | inr same ↦ first_is (visits_of more) others does (rw same (holds_reply does))
    ])

no_keep : (at : Step) (steps : List Step) → at ≡ step.Keep → asks_first (at ∷ steps) ≡ true → ⊥
no_keep at steps is first = false≢true (subst (λ (x : Step). asks_first (x ∷ steps) ≡ true) is first)

-- where what is held is kept behind a question alone, what is given was a reply
pub answered : {task : TaskValue} {terminal : EnvWords} {steps : List Step} {held secret : List ℕ} {lasts : Lifetime} {noted : Option Ending} {before after : Contacts} {replies : List Reply}
    → asks_first steps ≡ true → (comes : ComesTo task terminal steps held noted before replies (Gives secret lasts) after) → AreReplies task terminal (visits_of comes) replies secret
answered first (gives {step = at} {steps = steps} going does) =
    elim (gives_reply does) [ inl reply ↦ first_is [] [] does reply | inr kept ↦ absurd (no_keep at steps kept.0 first) ]
answered first (goes_on {step = at} {steps = steps} {told = reply} going does more) =
    further_is (visited does) (record { to = at; told = reply }) (visits_of more) (answered (goes_on_behind at steps does first) more)
answered first (notes {step = at} {steps = steps} {told = reply} going does more) =
    further_is (visited does) (record { to = at; told = reply }) (visits_of more) (answered (notes_behind steps does first) more)
answered first (holds {step = at} {told = reply} {others = others} going does more) =
    elim (reply_or_held more) [
      | inl are ↦ further_is (visited does) (record { to = at; told = reply }) (visits_of more) are
      | inr same ↦ first_is (visits_of more) others does (rw same (holds_reply does))
    ]
