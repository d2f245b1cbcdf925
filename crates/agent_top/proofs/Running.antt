-- What the agent does by its run mode, and what the daemon leaves.
use Rattle.std.{specs.Prelude.{IsSome, IfSome}, proofs.Common.{Option, None, Some, refl, sym, ◌≡◌, ◌≤◌, ◌<◌, ◌⊎◌, inl, inr, ℕ, List, [], ◌∷◌, Any, true, false, ap, ◌∙◌, subst, arith}}
use Rattle.{agent_ports.specs.{Counts.Rose, HostParts.{Views, AreSettled}, Sides.Side, declared.host.Parts.Parts}, cache_policy.specs.declared.{mark.Mark.Mark, tally.Tally.Tally}, counted_lock.specs.Logs.is_stopped}
use Rattle.{counted_lock.specs.Passes.{AtCounted, AtPass, IsClosed}, session_options.specs.declared.rules.{Rules.Rules, RunMode.{RunMode, TheVariants.{Server, Daemon, Load}}}, agent_serve.specs.Working.HostViews}
use Rattle.agent_top.{proofs.Stopping.stays_stopped, specs.{Load.{RunsLoad, no_memory as no_memory_for_load}, Daemon.{RunsDaemon, no_memory as no_memory_for_it, IsFirstStopped}}}
use Rattle.agent_top.specs.Top.{IfServer, IfDaemon, IfLoad, UsesParts, KeepsParts, HadNoMemory, RunsServer, RunsInFolder, settled, unread, Machine, machine, in_folder, with_pid, exit_number}
use Rattle.agent_top.specs.declared.status.Status.TheVariants as status

pub if_server : (run : RunMode) {P : Type 0} → P → IfServer run P
if_server Server p = p
if_server Daemon p = tt
if_server (Load number) p = tt

module _ {La C R K : Type 0} (views : Views La C R K) where
  -- the server does this with these parts of a host, and leaves those
  abbrev pub DoesWith : (Machine → ℕ → Machine → Type 0) → (input output : Side) → ℕ → (input_now output_now : Side) → Parts La C R K → Parts La C R K → Type 0
  DoesWith Runs input output number input_now output_now had has =
      Runs (machine input output (views.readings had.clock) (views.launches had.launcher) (views.keys had.keys) (views.draws had.dice)) number
      (machine input_now output_now (views.readings has.clock) (views.launches has.launcher) (views.keys has.keys) (views.draws has.dice))

  -- a server that ran in the folder
  abbrev pub RunsSettled : Rules → Machine → ℕ → Machine → Type 0
  RunsSettled rules before number after = RunsServer rules (in_folder rules before) number after

  -- what it does with parts that were settled, it does in the folder with those that they were before
  pub uses_settled : (rules : Rules) (input output : Side) (number : ℕ) (input_now output_now : Side) (before mid after : Option (Parts La C R K)) → IsSome before
      → AreSettled views rules.homedir.items before mid → UsesParts (DoesWith (RunsServer rules) input output number input_now output_now) mid after
      → UsesParts (DoesWith (RunsSettled rules) input output number input_now output_now) before after
  uses_settled rules input output number input_now output_now (Some had) (Some has) after there alike uses = record {
    had = had;
    has = uses.has;
    had_is = refl;
    has_is = uses.has_is;
    goes_on = subst (λ around. RunsServer rules around number (left uses.has)) same
        (subst (λ parts. DoesWith (RunsServer rules) input output number input_now output_now parts uses.has) (sym (some_is uses.had_is)) uses.goes_on);
  } where
    some_is : {x y : Parts La C R K} → Some x ≡ Some y → x ≡ y
    some_is e = cc e

    left : Parts La C R K → Machine
    left parts = machine input_now output_now (views.readings parts.clock) (views.launches parts.launcher) (views.keys parts.keys) (views.draws parts.dice)

    same : machine input output (views.readings has.clock) (views.launches has.launcher) (views.keys has.keys) (views.draws has.dice)
        ≡ in_folder rules (machine input output (views.readings had.clock) (views.launches had.launcher) (views.keys had.keys) (views.draws had.dice))
    same = rw (alike.clock, alike.launcher, alike.keys, alike.dice) refl
  uses_settled rules input output number input_now output_now (Some had) None after there alike uses = absurd alike
  uses_settled rules input output number input_now output_now None mid after there alike uses = absurd (cc there)

-- one that ran so ran in the folder of the words
pub in_its_folder : {La C R K : Type 0} (views : Views La C R K) (rules : Rules) (run : RunMode) (input output : Side) (number : ℕ) (input_now output_now : Side) (before after : Option (Parts La C R K))
    → IfServer run (UsesParts (DoesWith views (RunsSettled views rules) input output number input_now output_now) before after)
    → IfServer run (UsesParts (DoesWith views (RunsInFolder rules) input output number input_now output_now) before after)
in_its_folder views rules Server input output number input_now output_now before after uses =
    record { had = uses.had; has = uses.has; had_is = uses.had_is; has_is = uses.has_is; goes_on = settled uses.goes_on }
in_its_folder views rules Daemon input output number input_now output_now before after uses = tt
in_its_folder views rules (Load load) input output number input_now output_now before after uses = tt

if_daemon : (run : RunMode) {P : Type 0} → P → IfDaemon run P
if_daemon Server p = tt
if_daemon Daemon p = p
if_daemon (Load number) p = tt

pub if_load : (run : RunMode) (P : ℕ → Type 0) → ((number : ℕ) → P number) → IfLoad run P
if_load Server P p = tt
if_load Daemon P p = tt
if_load (Load number) P p = p number

any_rules : (rules : Option Rules) {P : Rules → Type 0} → ((given : Rules) → P given) → IfSome rules P
any_rules None p = tt
any_rules (Some given) p = p given

parts_of : {La C R K : Type 0} (parts : Option (Parts La C R K)) → IsSome parts → (had : Parts La C R K) × (parts ≡ Some had)
parts_of None some = absurd (cc some)
parts_of (Some had) some = (had, refl)

-- where there was no memory for the words, a load didn't run
pub no_words_for_load : {La C R K : Type 0} (views : Views La C R K) (rules : Option Rules) (number : ℕ) (input output : Side) (parts : Option (Parts La C R K)) → number ≡ exit_number status.NoMemory
    → IfSome rules (λ given. IfLoad given.run (λ load. RunsLoad load output number output × (input ≡ input) × KeepsParts views given.homedir.items parts parts))
no_words_for_load views rules number input output parts is = any_rules rules (λ given. if_load given.run _ (λ load. (rw is no_memory_for_load, refl, inl refl)))

-- where there was no memory for the words, the server didn't run
pub no_words_served : {La C R K : Type 0} (views : Views La C R K) (rules : Option Rules) (pid number : ℕ) (input output : Side) (parts : Option (Parts La C R K)) → IsSome parts → number ≡ exit_number status.NoMemory
    → IfSome rules (λ given. IfServer given.run (UsesParts (DoesWith views (RunsInFolder (with_pid pid given)) input output number input output) parts parts))
no_words_served views rules pid number input output parts some is =
    let had = parts_of parts some in
    any_rules rules (λ given. if_server given.run (record { had = had.0; has = had.0; had_is = had.1; has_is = had.1; goes_on = rw is unread }))

-- nor the daemon
pub no_words_for_daemon : {Ls E Li La C R K T : Type 0} (host : Rules → HostViews Ls E Li La C R K T) (rules : Option Rules) (pid number listens : ℕ) (input output : Side) (parts : Option (Parts La C R K))
    → number ≡ exit_number status.NoMemory
    → IfSome rules (λ given. IfDaemon given.run (RunsDaemon (host given) (with_pid pid given) listens output number listens output × (input ≡ input) × KeepsParts (host given).parts given.homedir.items parts parts))
no_words_for_daemon host rules pid number listens input output parts is = any_rules rules (λ given. if_daemon given.run (rw is no_memory_for_it, refl, inl refl))

-- nor was the host settled: it is as it was
pub no_words_to_settle : {H : Type 0} (rules : Option Rules) (number : ℕ) (host : H) (path : List ℕ) → HadNoMemory number → IfSome rules (λ given. (path ≡ given.homedir.items) ⊎ (HadNoMemory number × (host ≡ host)))
no_words_to_settle rules number host path is = any_rules rules (λ given. inr (is, refl))

-- a pass that has seen a stop stands in a run that is stopped
stopped_tally : (counted : AtCounted) (passes : List AtPass) (tally : Tally) → IsClosed counted passes tally → IsFirstStopped passes → tally.stopped ≡ true
stopped_tally counted [] tally closed first = absurd first
stopped_tally counted (pass ∷ later) tally closed first =
    let seen = closed.all.0.seen in
    ap (λ (t : Tally). t.stopped) closed.tally_is ∙ subst (λ (log : List Mark). is_stopped log ≡ true) seen.1 (stays_stopped pass.seen seen.0 first)

-- where the agent isn't stopped a call for a link has failed
pub listens_rose : {X : Type 0} (faults : X → ℕ) (ears : List X) (counted : AtCounted) (passes : List AtPass) (tally : Tally) (before listening now : ℕ)
    → IsClosed counted passes tally → IsFirstStopped passes ⊎ Any (λ ear. 0 < faults ear) ears → (Any (λ ear. 0 < faults ear) ears → Rose listening now)
    → before ≤ listening → tally.stopped ≡ false → Rose before now
listens_rose faults ears counted passes tally before listening now closed (inl first) back never is = absurd (cc (is, stopped_tally counted passes tally closed first))
listens_rose faults ears counted passes tally before listening now closed (inr failed) back never is = omega (arith, back failed, never)
