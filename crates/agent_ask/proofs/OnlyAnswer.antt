-- The events of a prompt have one answer.
use Rattle.std.{proofs.Common.{◌≡◌, ◌≢◌, ◌<◌, ◌+◌, ℕ, zero, suc, Bool, Option, None, Some, List, [], ◌∷◌, ◌++◌, Result, Ok, Err, refl, ap, sym, ◌∙◌, subst, append_assoc, arith}, specs.Prelude.⊤}
use Rattle.agent_ask.specs.{Events.{GetPin, Confirm, Shut, PromptEvent, Called, Notified, OutOfMemory}, Tests.PinTest}
use Rattle.agent_ask.specs.{Prompts.{MeetsCheck, try_text, pin_or_stop, typed, repeat_text, repeated, Repeats, IsTry, Tries, Opens, AsksBefore, AsksPin}, declared.{prompt.{ask.Asked.Asked, consent.Agreed.Agreed}, client.caller.Heard.Heard}}
use Rattle.agent_ask.specs.{declared.prompt.{prompter.{Consent.Consent, Outcome.Outcome}, spec.{AskPlan.AskPlan, PromptSpec.PromptSpec}, tries.{Failure.{Failure, TheVariants.Differ}, Stop.Stop}}, Consents.{ConsentBefore, AsksConsent, agreed_of}}
use Rattle.agent_ask.specs.declared.prompt.ask.Asked.TheVariants as asked
use Rattle.agent_ask.specs.declared.prompt.consent.Agreed.TheVariants as agreed
use Rattle.agent_ask.specs.declared.prompt.prompter.Outcome.TheVariants as outcome
use Rattle.agent_ask.specs.declared.prompt.tries.Stop.TheVariants as stop

-- a call of the prompter comes first, if anything
abbrev pub BeginsCalled : List PromptEvent → Type 0
BeginsCalled [] = ⊤
BeginsCalled (Called call ∷ more) = ⊤
BeginsCalled (Notified pid heard ∷ more) = ⊥
BeginsCalled (OutOfMemory ∷ more) = ⊥

pub tails : {first second : PromptEvent} {more rest : List PromptEvent} → first ∷ more ≡ second ∷ rest → more ≡ rest
tails same = cc same

pub same_pin : {error pin other : List ℕ} {more rest : List PromptEvent} → typed error pin ∷ more ≡ typed error other ∷ rest → pin ≡ other
same_pin same = cc same

same_outcome : {error : List ℕ} {what other : Outcome} {more rest : List PromptEvent} → Called (GetPin error what) ∷ more ≡ Called (GetPin error other) ∷ rest → what ≡ other
same_outcome same = cc same

not_typed : {error pin : List ℕ} {what : Outcome} {end : Stop} {more rest : List PromptEvent} → pin_or_stop what ≡ Err end
    → Called (GetPin error what) ∷ more ≡ typed error pin ∷ rest → ⊥
not_typed {error} {pin} {what} {end} stops same =
    let is : pin_or_stop what ≡ Ok pin = ap pin_or_stop (same_outcome {what = what} {other = outcome.Pin pin} same) in
    let both : Err end ≡ Ok pin = sym stops ∙ is in cc both

same_stop : {error : List ℕ} {what other : Outcome} {end final : Stop} {more rest : List PromptEvent} → pin_or_stop what ≡ Err end → pin_or_stop other ≡ Err final
    → Called (GetPin error what) ∷ more ≡ Called (GetPin error other) ∷ rest → end ≡ final
same_stop {error} {what} {other} {end} {final} stops ends same =
    let both : Err end ≡ Err final = sym stops ∙ ap pin_or_stop (same_outcome same) ∙ ends in cc both

-- the repeats, one after another
data Chain (pin : List ℕ) : ℕ → List PromptEvent → Result (List ℕ) Stop → Type 0 where
  last : Chain pin 0 [] (Ok pin)
  next : {count : ℕ} {more : List PromptEvent} {end : Result (List ℕ) Stop} → Chain pin count more end → Chain pin (suc count) (typed repeat_text pin ∷ more) end
  other : {count : ℕ} {different : List ℕ} → different ≢ pin → Chain pin (suc count) (typed repeat_text different ∷ []) (Err (stop.Failed Differ))
  over : {count : ℕ} (what : Outcome) {end : Stop} → pin_or_stop what ≡ Err end → Chain pin (suc count) (Called (GetPin repeat_text what) ∷ []) (Err end)

module _ (pin : List ℕ) where
  all_same : (count : ℕ) → Chain pin count (repeated count pin) (Ok pin)
  all_same zero = last
  all_same (suc count) = next (all_same count)

  some_same : (count before : ℕ) (more : List PromptEvent) (end : Result (List ℕ) Stop) → before < count → ((left : ℕ) → Chain pin (suc left) more end)
      → Chain pin count (repeated before pin ++ more) end
  some_same zero before more end fewer stops = absurd (omega arith)
  some_same (suc count) zero more end fewer stops = stops count
  some_same (suc count) (suc before) more end fewer stops = next (some_same count before more end (omega arith) stops)

chain_of : {count : ℕ} {pin : List ℕ} {events : List PromptEvent} {end : Result (List ℕ) Stop} → Repeats count pin events end → Chain pin count events end
chain_of {count} {pin} Repeats.same = all_same pin count
chain_of {count} {pin} (Repeats.differs {before} fewer differs) = some_same pin count before _ _ fewer (λ left. other differs)
chain_of {count} {pin} (Repeats.ended {before} what fewer stops) = some_same pin count before _ _ fewer (λ left. over what stops)

only_chain : {pin : List ℕ} {count : ℕ} {events later : List PromptEvent} {end final : Result (List ℕ) Stop} {more rest : List PromptEvent}
    → Chain pin count events end → Chain pin count later final → events ++ more ≡ later ++ rest → (more ≡ rest) × (end ≡ final)
only_chain last last same = (same, refl)
only_chain (next first) (next second) same = only_chain first second (tails same)
only_chain (next first) (other differs) same = absurd (differs (sym (same_pin same)))
only_chain (next first) (over what stops) same = absurd (not_typed stops (sym same))
only_chain (other differs) (next second) same = absurd (differs (same_pin same))
only_chain (other differs) (other differs') same = (tails same, refl)
only_chain (other differs) (over what stops) same = absurd (not_typed stops (sym same))
only_chain (over what stops) (next second) same = absurd (not_typed stops same)
only_chain (over what stops) (other differs) same = absurd (not_typed stops same)
only_chain (over what stops) (over what' stops') same = (tails same, ap (λ (s : Stop). Err s) (same_stop stops stops' same))

-- no repeats begin by a test that finds no memory
chain_called : {pin : List ℕ} {count : ℕ} {events : List PromptEvent} {end : Result (List ℕ) Stop} (more : List PromptEvent) → Chain pin count events end
    → BeginsCalled more → BeginsCalled (events ++ more)
chain_called more last called = called
chain_called more (next chain) called = tt
chain_called more (other differs) called = tt
chain_called more (over what stops) called = tt

out : {more rest : List PromptEvent} → BeginsCalled more → more ≡ OutOfMemory ∷ rest → ⊥
out called same = subst BeginsCalled same called

unmet : (plan : AskPlan) {error pin other : List ℕ} {more rest : List PromptEvent} → ¬ MeetsCheck plan.check pin → MeetsCheck plan.check other
    → typed error pin ∷ more ≡ typed error other ∷ rest → ⊥
unmet plan not met same = not (subst (λ (p : List ℕ). MeetsCheck plan.check p) (sym (same_pin same)) met)

wrong : (Rule : List ℕ → Type 0) {error pin other : List ℕ} {more rest : List PromptEvent} → ¬ Rule pin → Rule other
    → typed error pin ∷ more ≡ typed error other ∷ rest → ⊥
wrong Rule not right same = not (subst Rule (sym (same_pin same)) right)

ok_is : {pin again : List ℕ} → (let what : Result (List ℕ) Stop = Ok pin in what) ≡ Ok again → pin ≡ again
ok_is same = cc same

over_is : {end final : Asked} → (let what : Result (List ℕ) Stop = Err (stop.Over end) in what) ≡ Err (stop.Over final) → end ≡ final
over_is same = cc same

failed_is : {failure again : Failure} → (let what : Result (List ℕ) Stop = Err (stop.Failed failure) in what) ≡ Err (stop.Failed again) → failure ≡ again
failed_is same = cc same

module _ (plan : AskPlan) (Rule : List ℕ → Type 0) where
  only_try : (error : List ℕ) {events later : List PromptEvent} {made done : List PinTest} {end final : Result (List ℕ) Stop} {more rest : List PromptEvent} → BeginsCalled more → BeginsCalled rest
      → IsTry plan Rule error events made end → IsTry plan Rule error later done final → events ++ more ≡ later ++ rest → (more ≡ rest) × (end ≡ final)
  only_try error called begins (IsTry.ended what stops) (IsTry.ended what' stops') same = (tails same, ap (λ (s : Stop). Err s) (same_stop stops stops' same))
  only_try error called begins (IsTry.ended what stops) (IsTry.weak not') same = absurd (not_typed stops same)
  only_try error called begins (IsTry.ended what stops) (IsTry.bad met' not') same = absurd (not_typed stops same)
  only_try error called begins (IsTry.ended what stops) (IsTry.untested met') same = absurd (not_typed stops same)
  only_try error called begins (IsTry.ended what stops) (IsTry.accepted met' right' repeats') same = absurd (not_typed stops same)
  only_try error called begins (IsTry.weak not) (IsTry.ended what' stops') same = absurd (not_typed stops' (sym same))
  only_try error called begins (IsTry.weak not) (IsTry.weak not') same = (tails same, refl)
  only_try error called begins (IsTry.weak not) (IsTry.bad met' not') same = absurd (unmet plan not met' same)
  only_try error called begins (IsTry.weak not) (IsTry.untested met') same = absurd (unmet plan not met' same)
  only_try error called begins (IsTry.weak not) (IsTry.accepted met' right' repeats') same = absurd (unmet plan not met' same)
  only_try error called begins (IsTry.bad met not) (IsTry.ended what' stops') same = absurd (not_typed stops' (sym same))
  only_try error called begins (IsTry.bad met not) (IsTry.weak not') same = absurd (unmet plan not' met (sym same))
  only_try error called begins (IsTry.bad met not) (IsTry.bad met' not') same = (tails same, refl)
  only_try error called begins (IsTry.bad met not) (IsTry.untested met') same = absurd (out called (tails same))
  only_try error called begins (IsTry.bad met not) (IsTry.accepted met' right' repeats') same = absurd (wrong Rule not right' same)
  only_try error called begins (IsTry.untested met) (IsTry.ended what' stops') same = absurd (not_typed stops' (sym same))
  only_try error called begins (IsTry.untested met) (IsTry.weak not') same = absurd (unmet plan not' met (sym same))
  only_try error called begins (IsTry.untested met) (IsTry.bad met' not') same = absurd (out begins (sym (tails same)))
  only_try error called begins (IsTry.untested met) (IsTry.untested met') same = (tails (tails same), refl)
  only_try error {rest} called begins (IsTry.untested met) (IsTry.accepted met' right' repeats') same = absurd (out (chain_called rest (chain_of repeats') begins) (sym (tails same)))
  only_try error called begins (IsTry.accepted met right repeats) (IsTry.ended what' stops') same = absurd (not_typed stops' (sym same))
  only_try error called begins (IsTry.accepted met right repeats) (IsTry.weak not') same = absurd (unmet plan not' met (sym same))
  only_try error called begins (IsTry.accepted met right repeats) (IsTry.bad met' not') same = absurd (wrong Rule not' right (sym same))
  only_try error {more} called begins (IsTry.accepted met right repeats) (IsTry.untested met') same = absurd (out (chain_called more (chain_of repeats) called) (tails same))
  only_try error called begins (IsTry.accepted {pin} {events} {end} met right repeats) (IsTry.accepted {pin = again} met' right' repeats') same =
      only_chain (subst (λ (p : List ℕ). Chain p plan.repeat events end) (same_pin same) (chain_of repeats)) (chain_of repeats') (tails same)

  try_called : {error : List ℕ} {events : List PromptEvent} {made : List PinTest} {end : Result (List ℕ) Stop} (more : List PromptEvent) → IsTry plan Rule error events made end → BeginsCalled (events ++ more)
  try_called more (IsTry.ended what stops) = tt
  try_called more (IsTry.weak not) = tt
  try_called more (IsTry.bad met not) = tt
  try_called more (IsTry.untested met) = tt
  try_called more (IsTry.accepted met right repeats) = tt

  tries_called : {number : ℕ} {before : Option Failure} {events : List PromptEvent} {made : List PinTest} {end : Asked} (more : List PromptEvent) → Tries plan Rule number before events made end
      → BeginsCalled more → BeginsCalled (events ++ more)
  tries_called more (Tries.good within tried) called = try_called more tried
  tries_called more (Tries.over within tried) called = try_called more tried
  tries_called more (Tries.again {events} {more = later} within tried tries) called = subst BeginsCalled (sym (append_assoc events later more)) (try_called (later ++ more) tried)
  tries_called more (Tries.bad past) called = called

  only_tries : (number : ℕ) (before : Option Failure) {events later : List PromptEvent} {made done : List PinTest} {end final : Asked} (more rest : List PromptEvent) → BeginsCalled more → BeginsCalled rest
      → Tries plan Rule number before events made end → Tries plan Rule number before later done final → events ++ more ≡ later ++ rest → end ≡ final
  only_tries number before more rest called begins (Tries.good within tried) (Tries.good within' tried') same =
      ap (λ (p : List ℕ). asked.Pin p) (ok_is (only_try (try_text plan before number) called begins tried tried' same).1)
  only_tries number before more rest called begins (Tries.good within tried) (Tries.over within' tried') same =
      let differ = (only_try (try_text plan before number) called begins tried tried' same).1 in absurd (cc differ)
  only_tries number before more rest called begins (Tries.good within tried) (Tries.again {events = events'} {more = later'} {failure = failure'} within' tried' tries') same =
      let differ = (only_try (try_text plan before number) called (tries_called rest tries' begins) tried tried' (same ∙ append_assoc events' later' rest)).1 in
      absurd (cc differ)
  only_tries number before more rest called begins (Tries.good within tried) (Tries.bad past') same = absurd (omega arith)
  only_tries number before more rest called begins (Tries.over within tried) (Tries.good within' tried') same =
      let differ = (only_try (try_text plan before number) called begins tried tried' same).1 in absurd (cc differ)
  only_tries number before more rest called begins (Tries.over within tried) (Tries.over within' tried') same = over_is (only_try (try_text plan before number) called begins tried tried' same).1
  only_tries number before more rest called begins (Tries.over within tried) (Tries.again {events = events'} {more = later'} {failure = failure'} within' tried' tries') same =
      let differ = (only_try (try_text plan before number) called (tries_called rest tries' begins) tried tried' (same ∙ append_assoc events' later' rest)).1 in
      absurd (cc differ)
  only_tries number before more rest called begins (Tries.over within tried) (Tries.bad past') same = absurd (omega arith)
  only_tries number before more rest called begins (Tries.again {events} {more = later} {failure} within tried tries) (Tries.good within' tried') same =
      let differ = (only_try (try_text plan before number) (tries_called more tries called) begins tried tried' (sym (append_assoc events later more) ∙ same)).1 in absurd (cc differ)
  only_tries number before more rest called begins (Tries.again {events} {more = later} {failure} within tried tries) (Tries.over within' tried') same =
      let differ = (only_try (try_text plan before number) (tries_called more tries called) begins tried tried' (sym (append_assoc events later more) ∙ same)).1 in absurd (cc differ)
  only_tries number before more rest called begins (Tries.again {events} {more = later} {later = made_later} {failure} {end} within tried tries)
      (Tries.again {events = events'} {more = later'} {failure = failure'} within' tried' tries') same =
      let both =
      only_try (try_text plan before number) (tries_called more tries called) (tries_called rest tries' begins) tried tried'
      (sym (append_assoc events later more) ∙ same ∙ append_assoc events' later' rest) in
      only_tries (number + 1) (Some failure') more rest called begins (subst (λ (f : Failure). Tries plan Rule (number + 1) (Some f) later made_later end) (failed_is both.1) tries) tries' both.0
  only_tries number before more rest called begins (Tries.again {events} {more = later} {failure} within tried tries) (Tries.bad past') same = absurd (omega arith)
  only_tries number before more rest called begins (Tries.bad past) (Tries.good within' tried') same = absurd (omega arith)
  only_tries number before more rest called begins (Tries.bad past) (Tries.over within' tried') same = absurd (omega arith)
  only_tries number before more rest called begins (Tries.bad past) (Tries.again {events = events'} {more = later'} {failure = failure'} within' tried' tries') same = absurd (omega arith)
  only_tries number before more rest called begins (Tries.bad past) (Tries.bad past') same = refl

module _ {spec : PromptSpec} {notify : Bool} where
  only_opens : {events later : List PromptEvent} {opening final : Option Heard} {more rest : List PromptEvent} → Opens spec notify events opening → Opens spec notify later final
      → events ++ more ≡ later ++ rest → (more ≡ rest) × (opening ≡ final)
  only_opens Opens.failed Opens.failed same = (cc same, refl)
  only_opens Opens.failed Opens.broken same = (cc same, refl)
  only_opens Opens.failed (Opens.quiet noisy') same = (cc same, cc same)
  only_opens Opens.failed (Opens.told noisy') same = (cc same, cc same)
  only_opens Opens.broken Opens.failed same = (cc same, refl)
  only_opens Opens.broken Opens.broken same = (cc same, refl)
  only_opens Opens.broken (Opens.quiet noisy') same = (cc same, cc same)
  only_opens Opens.broken (Opens.told noisy') same = (cc same, cc same)
  only_opens (Opens.quiet noisy) Opens.failed same = (cc same, cc same)
  only_opens (Opens.quiet noisy) Opens.broken same = (cc same, cc same)
  only_opens (Opens.quiet noisy) (Opens.quiet noisy') same = (cc same, refl)
  only_opens (Opens.quiet noisy) (Opens.told noisy') same = let both = sym noisy ∙ noisy' in absurd (cc both)
  only_opens (Opens.told noisy) Opens.failed same = (cc same, cc same)
  only_opens (Opens.told noisy) Opens.broken same = (cc same, cc same)
  only_opens (Opens.told noisy) (Opens.quiet noisy') same = let both = sym noisy ∙ noisy' in absurd (cc both)
  only_opens (Opens.told noisy) (Opens.told noisy') same = (cc same, cc same)

some_is : {heard other : Heard} → Some heard ≡ Some other → heard ≡ other
some_is same = cc same

module _ (spec : PromptSpec) (plan : AskPlan) (Rule : List ℕ → Type 0) where
  only_before : {events later : List PromptEvent} {made done : List PinTest} {end final : Asked} (more rest : List PromptEvent) → BeginsCalled more → BeginsCalled rest
      → AsksBefore spec plan Rule events made end → AsksBefore spec plan Rule later done final → events ++ more ≡ later ++ rest → end ≡ final
  only_before more rest called begins (AsksBefore.unopened opens) (AsksBefore.unopened opens') same = refl
  only_before more rest called begins (AsksBefore.unopened opens) (AsksBefore.client_error lost' opens') same = let differ = (only_opens opens opens' same).1 in absurd (cc differ)
  only_before more rest called begins (AsksBefore.unopened opens) (AsksBefore.tried {events = events'} {more = tries_are'} opens' tries') same =
      let differ = (only_opens opens opens' (same ∙ append_assoc events' tries_are' rest)).1 in absurd (cc differ)
  only_before more rest called begins (AsksBefore.client_error lost opens) (AsksBefore.unopened opens') same = let differ = (only_opens opens opens' same).1 in absurd (cc differ)
  only_before more rest called begins (AsksBefore.client_error lost opens) (AsksBefore.client_error lost' opens') same = ap (λ (h : Heard). asked.Heard h) (some_is (only_opens opens opens' same).1)
  only_before more rest called begins (AsksBefore.client_error lost opens) (AsksBefore.tried {events = events'} {more = tries_are'} opens' tries') same =
      let differ = (only_opens opens opens' (same ∙ append_assoc events' tries_are' rest)).1 in absurd (lost (cc differ))
  only_before more rest called begins (AsksBefore.tried {events} {more = tries_are} opens tries) (AsksBefore.unopened opens') same =
      let differ = (only_opens opens opens' (sym (append_assoc events tries_are more) ∙ same)).1 in absurd (cc differ)
  only_before more rest called begins (AsksBefore.tried {events} {more = tries_are} opens tries) (AsksBefore.client_error lost' opens') same =
      let differ = (only_opens opens opens' (sym (append_assoc events tries_are more) ∙ same)).1 in absurd (lost' (cc differ))
  only_before more rest called begins (AsksBefore.tried {events} {more = tries_are} opens tries) (AsksBefore.tried {events = events'} {more = tries_are'} opens' tries') same =
      only_tries plan Rule 1 None more rest called begins tries tries'
      (only_opens opens opens' (sym (append_assoc events tries_are more) ∙ same ∙ append_assoc events' tries_are' rest)).0

  pub only_asked : (events : List PromptEvent) (first second : Asked) → AsksPin spec plan Rule events first → AsksPin spec plan Rule events second → first ≡ second
  only_asked events first second one two = only_before (Called Shut ∷ []) (Called Shut ∷ []) tt tt one.asks two.asks (sym one.whole ∙ two.whole)

consent_is : {consent other : Consent} {more rest : List PromptEvent} → Called (Confirm consent) ∷ more ≡ Called (Confirm other) ∷ rest → consent ≡ other
consent_is same = cc same

module _ (spec : PromptSpec) (notify : Bool) where
  only_consent : {events later : List PromptEvent} {end final : Agreed} (more : List PromptEvent)
      → ConsentBefore spec notify events end → ConsentBefore spec notify later final → events ++ more ≡ later ++ more → end ≡ final
  only_consent more (ConsentBefore.unopened opens) (ConsentBefore.unopened opens') same = refl
  only_consent more (ConsentBefore.unopened opens) (ConsentBefore.client_error lost' opens') same = let differ = (only_opens opens opens' (same)).1 in absurd (cc differ)
  only_consent more (ConsentBefore.unopened opens) (ConsentBefore.asked {events = events'} consent' opens') same =
      let differ = (only_opens opens opens' (same ∙ append_assoc events' (Called (Confirm consent') ∷ []) more)).1 in absurd (cc differ)
  only_consent more (ConsentBefore.client_error lost opens) (ConsentBefore.unopened opens') same = let differ = (only_opens opens opens' (same)).1 in absurd (cc differ)
  only_consent more (ConsentBefore.client_error lost opens) (ConsentBefore.client_error lost' opens') same = ap (λ (h : Heard). agreed.Heard h) (some_is (only_opens opens opens' same).1)
  only_consent more (ConsentBefore.client_error lost opens) (ConsentBefore.asked {events = events'} consent' opens') same =
      let differ = (only_opens opens opens' (same ∙ append_assoc events' (Called (Confirm consent') ∷ []) more)).1 in absurd (lost (cc differ))
  only_consent more (ConsentBefore.asked {events} consent opens) (ConsentBefore.unopened opens') same =
      let differ = (only_opens opens opens' (sym (append_assoc events (Called (Confirm consent) ∷ []) more) ∙ same)).1 in absurd (cc differ)
  only_consent more (ConsentBefore.asked {events} consent opens) (ConsentBefore.client_error lost' opens') same =
      let differ = (only_opens opens opens' (sym (append_assoc events (Called (Confirm consent) ∷ []) more) ∙ same)).1 in absurd (lost' (cc differ))
  only_consent more (ConsentBefore.asked {events} consent opens) (ConsentBefore.asked {events = events'} consent' opens') same =
      let rest = (only_opens opens opens' (sym (append_assoc events (Called (Confirm consent) ∷ []) more) ∙ same ∙ append_assoc events' (Called (Confirm consent') ∷ []) more)).0 in
      ap agreed_of (consent_is rest)

  pub only_agreed : (events : List PromptEvent) (first second : Agreed) → AsksConsent spec notify events first → AsksConsent spec notify events second → first ≡ second
  only_agreed events first second one two = only_consent (Called Shut ∷ []) one.asks two.asks (sym one.whole ∙ two.whole)
