-- What the reply to a step makes of a run: this project's own rules.
use Rattle.std.specs.{Prelude.{ℕ, ◌&&◌, not, ◌==◌, Bool, true, false, List, Option, Some, None, if◌then◌else◌}, List.list_all}
use Rattle.{passphrase_talk.specs.declared.{connector.Place.{Place, TheVariants.{Home, Beside}}, told.Told.Told}, passphrase_words.specs.{Requests.act_ttl, declared.task.Act.Act}}
use Rattle.passphrase_client.specs.{Endings.cause_of, declared.{ending.{Ending.Ending, Lifetime.Lifetime}, steps.Step.Step, verdict.Verdict.{Verdict, TheVariants.{GoesOn, Notes, Holds, Gives, Ends}}}}
use Rattle.passphrase_client.specs.declared.ending.Cause.TheVariants as cause
use Rattle.passphrase_client.specs.declared.ending.Ending.TheVariants as ending
use Rattle.passphrase_client.specs.declared.ending.Lifetime.TheVariants as lifetime
use Rattle.passphrase_client.specs.declared.steps.Step.TheVariants as step
use Rattle.passphrase_talk.specs.declared.told.Loss.TheVariants as loss
use Rattle.passphrase_talk.specs.declared.told.Told.TheVariants as told
use Rattle.passphrase_words.specs.declared.task.Act.TheVariants as act

-- a passphrase that can be given has neither a NUL nor a line feed
abbrev pub can_be_given : ℕ → Bool
can_be_given byte = not (byte == 0) && not (byte == 10)

abbrev pub is_one_line : List ℕ → Bool
is_one_line bytes = list_all can_be_given bytes

-- what is typed is to be repeated
abbrev pub repeats : Act → Bool
repeats (act.Give twice quiet ttl feeds) = twice
repeats _ = false

-- nobody is asked
abbrev pub looks_alone : Act → Bool
looks_alone act.Cached = true
looks_alone (act.Give repeats quiet ttl feeds) = quiet
looks_alone _ = false

-- an inquiry that is cancelled is the user's cancel where the user may have been asked
abbrev pub cancelled : Act → Step → ℕ → Ending
cancelled act step.Ask number = ending.Refused cause.Canceled
cancelled act step number = ending.Refused (cause_of step (repeats act) number false)

-- Why a step wasn't done, where it wasn't. An agent that says OK to an inquiry that was cancelled breaks the protocol.
abbrev pub failure : Act → Step → Told → Option Ending
failure act step (told.Passphrase secret) = None
failure act step told.Done = None
failure act step (told.Refused number launched) = Some (ending.Refused (cause_of step (repeats act) number launched))
failure act step (told.Cancelled (Some number)) = Some (cancelled act step number)
failure act step (told.Cancelled None) = Some (ending.Lost loss.Broken)
failure act step told.NoMemory = Some ending.NoMemory
failure act step (told.Lost loss) = Some (ending.Lost loss)

abbrev pub goes_on_or : Option Ending → Verdict
goes_on_or None = GoesOn
goes_on_or (Some ending) = Ends ending

-- the passphrase is given where it can be one line
abbrev pub given : List ℕ → Lifetime → Verdict
given secret lasts = if is_one_line secret then Gives secret lasts else Ends ending.NotOneLine

-- where a lifetime is wanted, one that is kept has the lifetime that it had
abbrev pub lifetime_found : Option ℕ → Lifetime
lifetime_found None = lifetime.AsWanted
lifetime_found (Some ttl) = lifetime.AsBefore

-- one that is kept is given, or was only to be known
abbrev pub found_verdict : Act → List ℕ → Verdict
found_verdict act.Cached secret = if is_one_line secret then Ends ending.Kept else Ends ending.NotOneLine
found_verdict act secret = given secret (lifetime_found (act_ttl act))

-- the agent is the one that would be asked, or none is to be asked
abbrev pub matters : Act → Place → Bool
matters act Home = true
matters act Beside = looks_alone act

-- A look that isn't done leaves the question open what is kept, unless nothing is. The next look may answer it, and nothing else is done then;
-- but where the other agent is asked in the end, one that fails is passed over.
abbrev pub missed_verdict : Act → Place → Option Ending → Verdict
missed_verdict act place None = GoesOn
missed_verdict act place (Some (ending.Refused cause.NoData)) = GoesOn
missed_verdict act place (Some failed) = if matters act place then Notes failed else GoesOn

abbrev pub look_verdict : Act → Place → Told → Verdict
look_verdict act place (told.Passphrase secret) = found_verdict act secret
look_verdict act place told.NoMemory = Ends ending.NoMemory
look_verdict act place other = missed_verdict act place (failure act (step.Look place) other)

-- what was typed and is to have a lifetime is held, to be kept so
abbrev pub held_for_life : Option ℕ → Verdict → Verdict
held_for_life (Some ttl) (Gives secret lasts) = Holds secret
held_for_life _ verdict = verdict

abbrev pub ask_verdict : Act → Told → Verdict
ask_verdict act (told.Passphrase secret) = held_for_life (act_ttl act) (given secret lifetime.AsWanted)
ask_verdict act told.Done = Ends ending.Empty
ask_verdict act other = goes_on_or (failure act step.Ask other)

-- An agent that inquires for the passphrase takes presets, and says by an error that it was given none. One that says OK breaks the protocol: it inquired for
-- nothing, or took what it wasn't given.
abbrev pub probe_verdict : Act → Told → Verdict
probe_verdict act (told.Cancelled (Some number)) = GoesOn
probe_verdict act told.Done = Ends (ending.Lost loss.Broken)
probe_verdict act (told.Passphrase secret) = Ends (ending.Lost loss.Broken)
probe_verdict act other = goes_on_or (failure act step.Probe other)

-- what is held is given once it is kept
abbrev pub keep_verdict : List ℕ → Option Ending → Verdict
keep_verdict held None = Gives held lifetime.AsWanted
keep_verdict held (Some ending) = Ends ending

-- what the reply to a step makes of the run, where this passphrase is held
abbrev pub verdict : Act → List ℕ → Step → Told → Verdict
verdict act held (step.Look place) told = look_verdict act place told
verdict act held step.Ask told = ask_verdict act told
verdict act held (step.Forget place) told = goes_on_or (failure act (step.Forget place) told)
verdict act held step.Store told = goes_on_or (failure act step.Store told)
verdict act held step.Probe told = probe_verdict act told
verdict act held step.Keep told = keep_verdict held (failure act step.Keep told)

-- an empty passphrase, of which the agent says OK without data, is forgotten where it would have been given
abbrev pub empties : Act → Step → Told → Bool
empties act step.Ask told.Done = true
empties (act.Give repeats quiet ttl feeds) (step.Look place) told.Done = true
empties _ _ _ = false

-- what that makes of the run, where it wasn't forgotten for this reason
abbrev pub emptied_verdict : Step → Option Ending → Verdict
emptied_verdict step (Some ending) = Ends ending
emptied_verdict step.Ask None = Ends ending.Empty
emptied_verdict step None = GoesOn

-- the failure that is noted first
abbrev pub first_of : Option Ending → Ending → Option Ending
first_of (Some ending) later = Some ending
first_of None ending = Some ending

-- behind a failure that is noted nothing but a look is done
abbrev pub stops_at : Step → Option Ending → Option Ending
stops_at (step.Look place) noted = None
stops_at step noted = noted

-- what a run comes to behind its last step, where this failure is noted
abbrev pub end_of : Act → Option Ending → Ending
end_of act (Some ending) = ending
end_of (act.Give repeats quiet ttl feeds) None = ending.NotKept
end_of act.Cached None = ending.NotCached
end_of act.Forget None = ending.Done
end_of act.ForgetAll None = ending.Done
end_of act.Store None = ending.Done
