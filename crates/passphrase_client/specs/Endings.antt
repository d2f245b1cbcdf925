-- What a run comes to, and the status of the process for it.
use Rattle.std.specs.Prelude.{ℕ, ◌||◌, ◌%◌, ◌^◌, ◌==◌, Bool, nat_le, if◌then◌else◌}
use Rattle.passphrase_client.specs.declared.{ending.{Cause.Cause, Ending.Ending}, steps.Step.{Step, TheVariants.{Look, Ask, Forget, Store, Probe, Keep}}}
use Rattle.passphrase_client.specs.declared.ending.Cause.TheVariants as cause
use Rattle.passphrase_client.specs.declared.ending.Ending.TheVariants as ending

-- The status: 0 where all was done, 1 where the agent refused or the passphrase can't be given, 2 where the input is refused or the output
-- can't be written, and 3 where there is no agent, or it was lost.
abbrev pub status_of : Ending → ℕ
status_of (ending.Given lifetime) = 0
status_of ending.Done = 0
status_of ending.Kept = 0
status_of ending.NotCached = 1
status_of ending.NotKept = 1
status_of (ending.Refused cause) = 1
status_of ending.Empty = 1
status_of ending.NotOneLine = 1
status_of ending.NoMemory = 1
status_of (ending.Input fault) = 2
status_of ending.Unwritten = 2
status_of ending.NoAgent = 3
status_of (ending.Lost loss) = 3

-- The codes are those of libgpg-error: GPG_ERR_BAD_PASSPHRASE is 11, GPG_ERR_NO_DATA 58, GPG_ERR_NOT_SUPPORTED 60, GPG_ERR_TIMEOUT 62,
-- GPG_ERR_NOT_IMPLEMENTED 69, GPG_ERR_NO_PINENTRY 85, GPG_ERR_NO_PIN_ENTRY 86, GPG_ERR_CANCELED 99 and GPG_ERR_FULLY_CANCELED 198, and a
-- system's errors begin at 32768 (GPG_ERR_SYSTEM_ERROR). What they mean to a user is this project's own.
abbrev pub cause_by : ℕ → Cause
cause_by code = if code == 58 then cause.NoData else cause.Other code

-- of a request that may ask the user
abbrev pub cause_of_ask : ℕ → Bool → Bool → Cause
cause_of_ask code repeats launched =
    if (code == 85) || ((code == 86) || nat_le 32768 code) then (if launched then cause.Closed else cause.NoPrompt)
    else if (code == 99) || (code == 198) then cause.Canceled
    else if code == 62 then (if launched then cause.NotTyped else cause.OtherPrompt)
    else if code == 11 then (if repeats then cause.Differ else cause.Bad)
    else cause_by code

-- of a preset that has a lifetime, and of one that has none
abbrev pub cause_of_lifetime : ℕ → Cause
cause_of_lifetime code = if code == 60 then cause.NoTtl else if code == 69 then cause.NoLifetime else cause_by code

abbrev pub cause_of_preset : ℕ → Cause
cause_of_preset code = if code == 60 then cause.NoPresets else cause_by code

-- why the agent refused a step by an error of this number; its code is in its 16 low bits
abbrev pub cause_of : Step → Bool → ℕ → Bool → Cause
cause_of (Look place) repeats number launched = cause_by (number % 2 ^ 16)
cause_of Ask repeats number launched = cause_of_ask (number % 2 ^ 16) repeats launched
cause_of (Forget place) repeats number launched = cause_by (number % 2 ^ 16)
cause_of Store repeats number launched = cause_of_preset (number % 2 ^ 16)
cause_of Probe repeats number launched = cause_of_lifetime (number % 2 ^ 16)
cause_of Keep repeats number launched = cause_of_lifetime (number % 2 ^ 16)
