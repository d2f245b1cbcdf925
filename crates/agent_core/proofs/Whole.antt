-- A step of a core that isn't spent, and one of a core that is.
use Rattle.std.{specs.Prelude.{◌≡◌, ◌≢◌, ℕ, ◌+◌, ◌%◌, ◌<◌, ◌≤◌, ◌==◌, true, false, refl, if◌then◌else◌}, proofs.{Common.{sym, ◌∙◌, subst, arith}, lemmas.Bool.Decides.nat_tests}}
use Rattle.{agent_ports.specs.declared.session.SessionId.SessionId, cache_policy.specs.{declared.{bounds.TheConstants.{MAX_MARKS, MAX_MOMENT}, mark.MarkStep.MarkStep}, Histories.History, Runs.{last_base, next_history, moment_of}}}
use Rattle.cache_policy.specs.{Legal.IsLegal, Turns.{Turn, Stopping}}
use Rattle.agent_core.{specs.{declared.state.State.State, States.{seen, IsState}, Taking.Takes, Cores.{AtCore, StandsFor, IsStep, spent}}, proofs.{Standing.{next_is, ready}, Dispatch.takes_step}}

-- the numbers are used up exactly where the next history has the last base
at_end : (base count : ℕ) → base < last_base → base % MAX_MARKS ≡ 0 → count ≤ MAX_MARKS → base + count ≡ last_base
    → (if count == MAX_MARKS then base + MAX_MARKS else base) ≡ last_base
at_end base count below whole few all =
    elim (count == MAX_MARKS) as (λ b. (count == MAX_MARKS) ≡ b → (if b then base + MAX_MARKS else base) ≡ last_base) [
      | true ↦ λ e. let full : count ≡ MAX_MARKS = grind (arith, nat_tests) in omega (arith, full, all)
      | false ↦ λ e. let some : count < MAX_MARKS = grind (arith, nat_tests) in absurd (omega (arith, some, all, whole, below))
    ] refl

not_at_end : (base count : ℕ) → base < last_base → base % MAX_MARKS ≡ 0 → count ≤ MAX_MARKS → base + count ≢ last_base
    → (if count == MAX_MARKS then base + MAX_MARKS else base) < last_base
not_at_end base count below whole few more =
    elim (count == MAX_MARKS) as (λ b. (count == MAX_MARKS) ≡ b → (if b then base + MAX_MARKS else base) < last_base) [
      | true ↦ λ e. let full : count ≡ MAX_MARKS = grind (arith, nat_tests) in omega (arith, full, more, whole, below)
      | false ↦ λ e. below
    ] refl

is_last : (n : ℕ) → n ≡ last_base → (n == last_base) ≡ true
is_last n h = grind (arith, nat_tests)

not_last : (n : ℕ) → n < last_base → (n == last_base) ≡ false
not_last n h = grind (arith, nat_tests)

-- the state that a core has
pub record IsCore (core : AtCore) (state : State) : Type 0 where
  pub seen_is : seen state ≡ core
  pub state_is : IsState state

pub spent_step : (core : AtCore) (state : State) (history : History) (session : SessionId) (moment : ℕ) (step_of : MarkStep) → IsCore core state
    → core.base + core.count ≡ last_base → IsLegal core.limits history → StandsFor core history → IsStep core history session moment step_of Stopping core
spent_step core state history session moment step_of is all legal stands =
    spent (is_last (next_history history).base (sym (next_is core history legal stands).base_is ∙ ends)) refl
  where
    ends : (if core.count == MAX_MARKS then core.base + MAX_MARKS else core.base) ≡ last_base
    ends = subst (λ (c : AtCore). c.base + c.count ≡ last_base → (if c.count == MAX_MARKS then c.base + MAX_MARKS else c.base) ≡ last_base) is.seen_is
        (at_end state.base state.count is.state_is.base is.state_is.whole is.state_is.few) all

-- a step that is taken by a state at a reading
pub record IsTakenAt (before after : State) (reading moment : ℕ) (session : SessionId) (step_of : MarkStep) (turn : Turn) : Type 0 where
  pub takes : Takes before moment session step_of turn after
  pub state : IsState after
  pub moment_is : moment ≡ moment_of before.moment reading
  pub later : before.moment ≤ moment
  pub within : moment ≤ MAX_MOMENT

step_counts : (before after : State) (history : History) (session : SessionId) (reading moment : ℕ) (step_of : MarkStep) (turn : Turn)
    → IsState before → before.base + before.count ≢ last_base → IsTakenAt before after reading moment session step_of turn
    → IsLegal before.limits history → StandsFor (seen before) history
    → IsStep (seen before) history session (moment_of before.moment reading) step_of turn (seen after)
step_counts before after history session reading moment step_of turn is more taken legal stands =
    subst (λ (t : ℕ). IsStep (seen before) history session t step_of turn (seen after)) taken.moment_is
    (takes_step before after history session moment (record {
      ready = ready before history moment legal stands taken.later taken.within;
      state = taken.state;
      going = not_last (next_history history).base (subst (λ (n : ℕ). n < last_base) (next_is (seen before) history legal stands).base_is
          (not_at_end before.base before.count is.base is.whole is.few more));
    }) step_of turn taken.takes)

pub whole_step : (core : AtCore) (before after : State) (history : History) (session : SessionId) (reading moment : ℕ) (step_of : MarkStep) (turn : Turn)
    → IsCore core before → core.base + core.count ≢ last_base → IsTakenAt before after reading moment session step_of turn
    → IsLegal core.limits history → StandsFor core history → IsStep core history session (moment_of core.moment reading) step_of turn (seen after)
whole_step core before after history session reading moment step_of turn is =
    subst (λ (c : AtCore). c.base + c.count ≢ last_base → IsTakenAt before after reading moment session step_of turn
    → IsLegal c.limits history → StandsFor c history → IsStep c history session (moment_of c.moment reading) step_of turn (seen after)) is.seen_is
    (step_counts before after history session reading moment step_of turn is.state_is)
