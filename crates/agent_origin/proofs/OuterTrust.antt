-- Lines with a command on the trust list that are allowed at the outer door, and what is done for them to the cache.
use Rattle.std.proofs.Common.{◌≡◌, ℕ, Bool, true, false, List, Option, None, Some, Result, Ok, Err}
use Rattle.{agent_ask.specs.Session.Actions.Refuses, agent_commands.specs.declared.went.Went.Went, agent_ports.specs.declared.grip.Grip.Grip, session_client.specs.declared.{code.Code.Code, refusal.Refusal.{Refusal, TheVariants.Agent}}}
use Rattle.{session_client.specs.Fields.◌>>=◌, command_table.specs.{Commands.command_in, declared.commands.Command.Command}, key_commands.specs.Events.Event, session_options.specs.{OptionValues.OptionValues, declared.rules.Rules.Rules}}
use Rattle.trust_list.specs.Trust.{trust}
use Rattle.agent_origin.specs.{Doors.{passes_by, allowed}, TrustExchanges.{TrustExchange, Carried, TrustedNow, unless_said}, OuterTurns.LeavesCache, TrustActions.{ReadsFile, has_read, faulted, no_memory}}
use Rattle.agent_origin.specs.{TrustRequests.{trust_or_bad, trust_request_by, trust_request_of}, declared.{door.Door.TheVariants.Outer, trust.request.TrustRequest.{TrustRequest, TheVariants.{IsTrusted, MarkTrusted, Bad}}}}
use Rattle.agent_origin.proofs.Outer.{LeaveLaw, Leaves, bind, unseated_too, gives, refused_by, actions_leave}
use Rattle.session_client.specs.declared.code.Code.TheVariants as code
use Rattle.command_table.specs.declared.commands.Command.TheVariants as at_table
use Rattle.command_table.specs.declared.commands.TrustCommandName.TheVariants as name

-- ---- ISTRUSTED takes no turn

abbrev pub IsOuterTrust : TrustRequest → Type 0
IsOuterTrust (MarkTrusted fingerprint purpose owner) = ⊥
IsOuterTrust _ = Unit {0}

reads_of : (before : Option ℕ) (events : List Event) (result : Result (List ℕ) Refusal) (after : Option ℕ) → ReadsFile before events result after → LeaveLaw before events result after
reads_of before events result after (has_read is) later owes = owes
reads_of before events result after faulted later owes = owes
reads_of before events result after no_memory later owes = owes

said_leaves : (said : Option Bool) → Leaves (unless_said said (Refuses (Agent code.NotTrusted)))
said_leaves (Some true) = gives tt
said_leaves (Some false) = refused_by (Agent code.NotTrusted)
said_leaves None = refused_by (Agent code.NotTrusted)

now_leaves : (fingerprint : Grip) → Leaves (TrustedNow fingerprint)
unfolding TrustedNow
now_leaves fingerprint = bind (record { of = reads_of }) (λ file. said_leaves (trust file fingerprint.0))

carried_leaves : (agent : Rules) (options : OptionValues) (request : TrustRequest) → IsOuterTrust request → Leaves (Carried agent options request)
carried_leaves agent options (IsTrusted fingerprint) outer = now_leaves fingerprint
carried_leaves agent options (MarkTrusted fingerprint purpose owner) outer = absurd outer
carried_leaves agent options (Bad code) outer = refused_by (Agent code)

is_trusted_outer : (read : Result Grip Code) → IsOuterTrust (trust_or_bad (read >>= λ fingerprint. Ok (IsTrusted fingerprint)))
is_trusted_outer (Ok fingerprint) = tt
is_trusted_outer (Err code) = tt

-- MARKTRUSTED is never allowed
named_outer : (line : List ℕ) (found : Option Command) → passes_by found line ≡ true → IsOuterTrust (trust_request_by found line)
named_outer line None allows = tt
named_outer line (Some (at_table.Cache name)) allows = tt
named_outer line (Some (at_table.Key name)) allows = tt
named_outer line (Some (at_table.Trust name.IsTrusted)) allows = is_trusted_outer _
named_outer line (Some (at_table.Trust name.MarkTrusted)) allows = cc allows

pub trust_outer : (line : List ℕ) → allowed Outer line ≡ true → IsOuterTrust (trust_request_of line)
unfolding trust_request_of
trust_outer line allows = named_outer line (command_in line) allows

pub trust_leaves : (agent : Rules) (options : OptionValues) (line : List ℕ) {events : List Event} {went : Went} → allowed Outer line ≡ true
    → TrustExchange agent options (trust_request_of line) events went → LeavesCache events
trust_leaves agent options line allows exchanged =
    actions_leave (unseated_too (bind (carried_leaves agent options (trust_request_of line) (trust_outer line allows)) (λ carried. gives _))) exchanged
