-- A step as it is asked, and as its session takes it: the moment of its first try stands in place of a wait of its own.
use Rattle.std.{specs.Prelude.{◌≡◌, ℕ, Option, Some, None, IfSome, true, refl}, proofs.Common.{ap, sym, subst, eq-eqb}}
use Rattle.{agent_ports.specs.declared.session.SessionId.SessionId, cache_policy.specs.declared.{mark.{MarkStep.{MarkStep, TheVariants.{Ask, Seat, Close, Put, Clear, Flush, Peek, Stop}}, Way.TheVariants.{Quiet, Prompt}}, step.Step.Step}}
use Rattle.cache_policy.specs.{declared.wait.Wait.Wait, Turns.{Turn, Given, Empty, Open, Stand, Done, Held, Stopping, Late, Refused, FitsReply, asked_step, wait_of, mark_step, closes, with_since, since_of, since_when}}
use Rattle.cache_policy.specs.Waits.{is_session, since_by}
use Rattle.agent_core.specs.{declared.opening.Opening.Opening, Openings.{opening_step, without_wait}}
use Rattle.cache_policy.specs.declared.step.Step.TheVariants as step
use Rattle.agent_core.specs.declared.opening.Opening.TheVariants as opening

pub closes_taken : (session : SessionId) (asked : Step) → closes (mark_step session asked) ≡ closes (asked_step asked)
closes_taken session (step.Ask id mode way wait) = refl
closes_taken session (step.Seat under wait) = refl
closes_taken session (step.Close ticket keep) = refl
closes_taken session (step.Put id mode life secret) = refl
closes_taken session (step.Clear id mode) = refl
closes_taken session step.Flush = refl
closes_taken session (step.Peek id mode) = refl
closes_taken session step.Stop = refl

-- a step that hands no wait in is taken as it is asked
pub first_taken : (session : SessionId) (asked : Step) → wait_of asked ≡ None → mark_step session asked ≡ asked_step asked
first_taken session (step.Ask id mode way wait) none = ap (λ (w : Option Wait). Ask id mode way (since_by session w)) none
first_taken session (step.Seat under wait) none = ap (λ (w : Option Wait). Seat under (since_by session w)) none
first_taken session (step.Close ticket keep) none = refl
first_taken session (step.Put id mode life secret) none = refl
first_taken session (step.Clear id mode) none = refl
first_taken session step.Flush none = refl
first_taken session (step.Peek id mode) none = refl
first_taken session step.Stop none = refl

pub first_asked : (asked : Step) → wait_of asked ≡ None → without_wait asked ≡ asked
first_asked (step.Ask id mode way wait) none = ap (step.Ask id mode way) (sym none)
first_asked (step.Seat under wait) none = ap (step.Seat under) (sym none)
first_asked (step.Close ticket keep) none = refl
first_asked (step.Put id mode life secret) none = refl
first_asked (step.Clear id mode) none = refl
first_asked step.Flush none = refl
first_asked (step.Peek id mode) none = refl
first_asked step.Stop none = refl

-- it is asked as one that wasn't tried before
pub asked_first : (asked : Step) → since_of (asked_step asked) ≡ None
asked_first (step.Ask id mode way wait) = refl
asked_first (step.Seat under wait) = refl
asked_first (step.Close ticket keep) = refl
asked_first (step.Put id mode life secret) = refl
asked_first (step.Clear id mode) = refl
asked_first step.Flush = refl
asked_first (step.Peek id mode) = refl
asked_first step.Stop = refl

fits_since : (since : Option ℕ) (asked : MarkStep) (turn : Turn) → FitsReply asked turn → FitsReply (with_since since asked) turn
fits_since since (Ask id mode way first) (Given grant) fits = fits
fits_since since (Ask id mode Quiet first) Empty fits = fits
fits_since since (Ask id mode Prompt first) Empty fits = fits
fits_since since (Ask id mode Quiet first) (Open number) fits = fits
fits_since since (Ask id mode Prompt first) (Open number) fits = fits
fits_since since (Ask id mode Quiet first) (Stand wait) fits = fits
fits_since since (Ask id mode Prompt first) (Stand wait) fits = fits
fits_since since (Ask id mode Quiet first) Late fits = fits
fits_since since (Ask id mode Prompt first) Late fits = fits
fits_since since (Ask id mode way first) Done fits = fits
fits_since since (Ask id mode way first) (Held held) fits = fits
fits_since since (Ask id mode way first) Stopping fits = fits
fits_since since (Ask id mode way first) Refused fits = fits
fits_since since (Seat under first) _ fits = fits
fits_since since (Close ticket keep) turn fits = fits
fits_since since (Put id mode life secret) turn fits = fits
fits_since since (Clear id mode) turn fits = fits
fits_since since Flush turn fits = fits
fits_since since (Peek id mode) turn fits = fits
fits_since since Stop turn fits = fits

pub fits_taken : (session : SessionId) (asked : Step) (turn : Turn) → FitsReply (asked_step asked) turn → FitsReply (mark_step session asked) turn
fits_taken session asked turn fits = fits_since (since_by session (wait_of asked)) (asked_step asked) turn fits

-- the since of a step that has it
pub with_again : (since : Option ℕ) (asked : MarkStep) → with_since since asked ≡ with_since (since_of (with_since since asked)) asked
with_again since (Ask id mode way first) = refl
with_again since (Seat under first) = refl
with_again since (Close ticket keep) = refl
with_again since (Put id mode life secret) = refl
with_again since (Clear id mode) = refl
with_again since Flush = refl
with_again since (Peek id mode) = refl
with_again since Stop = refl

pub since_with : (since : Option ℕ) (asked : MarkStep) (P : ℕ → Type 0) → IfSome since P → IfSome (since_of (with_since since asked)) P
since_with since (Ask id mode way first) P is = is
since_with since (Seat under first) P is = is
since_with since (Close ticket keep) P is = tt
since_with since (Put id mode life secret) P is = tt
since_with since (Clear id mode) P is = tt
since_with since Flush P is = tt
since_with since (Peek id mode) P is = tt
since_with since Stop P is = tt

-- a wait of the session's own
pub own_session : (session : SessionId) → is_session session session ≡ true
own_session session = rw (eq-eqb session.pass session.pass refl, eq-eqb session.count session.count refl) refl

pub since_own : (session : SessionId) (wait : Wait) → wait.session ≡ session → since_by session (Some wait) ≡ Some wait.since
since_own session wait is =
    subst (λ (s : SessionId). since_by s (Some wait) ≡ Some wait.since) is
    (rw (own_session wait.session) refl)

-- a step that wants the prompt, and its further tries
pub opening_taken : (session : SessionId) (opens : Opening) (wait : Wait) → wait.session ≡ session
    → mark_step session (opening_step opens (Some wait)) ≡ with_since (Some wait.since) (asked_step (opening_step opens None))
opening_taken session (opening.Ask id mode) wait is = ap (Ask id mode Prompt) (since_own session wait is)
opening_taken session (opening.Seat under) wait is = ap (Seat under) (since_own session wait is)

pub opening_since : (opens : Opening) (since moment : ℕ) → since_when (with_since (Some since) (asked_step (opening_step opens None))) moment ≡ since
opening_since (opening.Ask id mode) since moment = refl
opening_since (opening.Seat under) since moment = refl

pub opening_closes : (opens : Opening) (wait : Option Wait) → closes (asked_step (opening_step opens wait)) ≡ None
opening_closes (opening.Ask id mode) wait = refl
opening_closes (opening.Seat under) wait = refl

pub opening_again : (opens : Opening) (wait : Option Wait) → without_wait (opening_step opens wait) ≡ opening_step opens None
opening_again (opening.Ask id mode) wait = refl
opening_again (opening.Seat under) wait = refl
