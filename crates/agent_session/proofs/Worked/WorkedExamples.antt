-- Worked examples: error lines that have no cause.
use Rattle.std.{specs.{List.{AllByRecursion, count_by}, Prelude.⊤}, proofs.Common.{◌≡◌, ℕ, false, List, [], ◌∷◌, Some, None, refl, inl, inr}}
use Rattle.agent_ask.specs.{Events.{GetPin, Start, Shut, Called}, Session.{PortCalls.{PortCall, Prompt, Dice, Trust, Drew, NotDrawn}, SessionEvents.{Sent, Port, cache_turn}, TrustCalls.Read}, Prompters.is_failed, declared.prompt.spec.PromptSpec.PromptSpec}
use Rattle.{assuan_server.specs.{Written.failed, declared.errors.Origin.TheVariants.Agent}, cache_policy.specs.{Turns.{Given, Open, Done}, declared.{grant.Grant.Grant, mark.MarkStep.{MarkStep, TheVariants.Close}}}}
use Rattle.{session_options.specs.declared.rules.Rules.Rules, agent_commands.specs.{Events.EventWith, Passphrases.{ask, ask_or_open}, Requests.{GetFields, get_passphrase}, declared.request.Request.{Request, TheVariants.Cache}}}
use Rattle.agent_origin.specs.declared.session_state.SessionState.{SessionState}
use Rattle.agent_session.{specs.{Causes.{here, later, IsCaused, HasNoEntry, GivesNone, HasCall, is_broken}, Counting.{fails_at_keys, fails_at_dice, fails_at_trust}}, proofs.Standing.each_has}
use Rattle.agent_ports.specs.declared.trust.TrustRead.TheVariants as trust_read
use Rattle.agent_ask.specs.declared.prompt.prompter.Opened.TheVariants as opened
use Rattle.agent_ask.specs.declared.prompt.prompter.Outcome.TheVariants as outcome
use Rattle.session_client.specs.declared.code.Code.TheVariants as code
use Rattle.session_options.specs.declared.options.PinMode.TheVariants as mode
use Rattle.agent_session.specs.Causes as causes

module _ (rules : Rules) (kept : SessionState) where
  -- a request in which the keys and the dice weren't called isn't answered by a General error
  uncalled : (request : Request) → IsCaused (Sent (failed code.General) ∷ []) rules kept request code.General Agent → ⊥
  uncalled request (causes.one event fails here) = fails
  uncalled request (causes.one event fails (later has)) = elim has [ ]

  -- the user cancelled a prompt, and the request isn't answered by No pinentry
  module _ (spec : PromptSpec) (id : List ℕ) (pid ticket : ℕ) where
    abbrev cancelled : List (EventWith PortCall)
    cancelled =
        cache_turn (ask_or_open id) (Open ticket) ∷ Port (Prompt (Called (Start spec (opened.Pid pid)))) ∷ Port (Prompt (Called (GetPin [] outcome.Cancelled)))
        ∷ Port (Prompt (Called Shut)) ∷ cache_turn (Close ticket None) Done ∷ Sent (failed code.NoPinentry) ∷ []

    abbrev IsFine : EventWith PortCall → Type 0
    IsFine (Port (Prompt (Called call))) = (is_failed call ≡ false) × (is_broken call ≡ false)
    IsFine _ = ⊤

    all_fine : AllByRecursion IsFine cancelled
    all_fine = (tt, ((refl, refl), ((refl, refl), ((refl, refl), (tt, (tt, tt))))))

    none_failed : HasCall cancelled is_failed → ⊥
    none_failed (causes.called call so has) = let fine = each_has IsFine cancelled all_fine has in absurd (cc (so, fine.0))

    none_broken : HasCall cancelled is_broken → ⊥
    none_broken (causes.called call so has) = let fine = each_has IsFine cancelled all_fine has in absurd (cc (so, fine.1))

    prompted : (request : Request) → kept.options.mode ≡ mode.Ask → IsCaused cancelled rules kept request code.NoPinentry Agent → ⊥
    prompted request asks (inl (causes.by_mode is none)) = absurd (cc (asks, is))
    prompted request asks (inl (causes.of_consent wants is)) = absurd (cc (asks, is))
    prompted request asks (inr (inl failed)) = none_failed failed
    prompted request asks (inr (inr broken)) = none_broken broken

  -- an entry was given, and the request isn't cancelled because its client wants no prompt
  module _ (fields : GetFields) (id : List ℕ) (grant : Grant) (has_id : fields.id ≡ Some id) where
    abbrev cached : List (EventWith PortCall)
    cached = cache_turn (ask id) (Given grant) ∷ Sent (failed code.Cancelled) ∷ []

    gives_none : (step : MarkStep) → GivesNone cached step → ⊥
    gives_none asked (causes.none_given turn none here) = none
    gives_none asked (causes.none_given turn none (later (later has))) = elim has [ ]

    has_no_entry : HasNoEntry cached (Cache (get_passphrase fields)) → ⊥
    has_no_entry (causes.without_id other is none) = let same : fields.id ≡ other.id = cc is in absurd (cc (same, has_id, none))
    has_no_entry (causes.passphrase other other_id is other_has gives) = gives_none (ask other_id) gives
    has_no_entry (causes.exported way is locked by_nonce by_key) = absurd (cc is)
    has_no_entry (causes.changed way is locked by_nonce by_key) = absurd (cc is)
    has_no_entry (causes.verified is locked) = absurd (cc is)
    has_no_entry (causes.imported is gives) = absurd (cc is)
    has_no_entry (causes.renewed is gives) = absurd (cc is)
    has_no_entry (causes.of_consent (causes.confirmation is)) = absurd (cc is)
    has_no_entry (causes.of_consent (causes.deletion is)) = absurd (cc is)

    answered : IsCaused cached rules kept (Cache (get_passphrase fields)) code.Cancelled Agent → ⊥
    answered (causes.by_mode is none) = has_no_entry none
    answered (causes.by_client (causes.said says (later (later has)))) = elim has [ ]
    answered (causes.by_stop (causes.turned asked keeps (later (later has)))) = elim has [ ]

-- a draw that failed, then one that didn't, and a trust file that couldn't be read: one failure on each of two ends
abbrev failing : List (EventWith PortCall)
failing = Port (Dice (NotDrawn 32)) ∷ Port (Dice (Drew (0 ∷ []))) ∷ Port (Trust (Read trust_read.Failed)) ∷ []

one_at_the_dice : count_by fails_at_dice failing ≡ 1
one_at_the_dice = refl

one_at_the_trust_file : count_by fails_at_trust failing ≡ 1
one_at_the_trust_file = refl

none_at_the_keys : count_by fails_at_keys failing ≡ 0
none_at_the_keys = refl
