-- A worker that was stopped, worked by hand.
use Rattle.std.proofs.Common.{◌≡◌, ◌<◌, ◌-◌, ◌^◌, ℕ, List, None, refl, arith}
use Rattle.{agent_origin.specs.declared.door.Door.TheVariants.Home, agent_ports.specs.{HostParts.Views, Sides.Side, TrustFiles.TrustState, declared.listener.Next.TheVariants.Stopped}, counted_lock.specs.Passes.AtPass}
use Rattle.session_options.specs.declared.rules.Rules.{Rules}
use Rattle.agent_serve.{proofs.Works.told_where_nothing_failed, specs.Working.{HostViews, Works, post_at, none, stopped}}

module _ {Li La C R K T : Type 0} (input output : Li → Side) (parts : Views La C R K) (trust : T → TrustState) (folder : List ℕ) (rules : Rules) where
  -- Listeners are numbers here, and an ear is its count of faults. Listener 0 was told to stop, and answers so.
  abbrev stopped_host : HostViews ℕ ℕ Li La C R K T
  stopped_host = record {
    gives = λ listener link. listener ≡ 1;
    answers = λ listener ear answer back. (listener ≡ 0) × (answer ≡ Stopped) × (back ≡ ear);
    is_told = λ listener. listener ≡ 0;
    tells = λ listener ear back. (listener ≡ 0) × (back ≡ ear);
    hears = λ listener ear. listener ≡ 0;
    faults = λ ear. ear;
    is_home = λ listener. listener ≡ 0;
    is_extra = λ listener. listener ≡ 1;
    input = input;
    output = output;
    parts = parts;
    trust = trust;
    folder = folder;
  }

  -- a worker that is stopped before a link came, and whose ear had heard three faults before
  stopped_at_once : (pass : AtPass) → Works stopped_host rules (post_at Home 0 None) pass 3 pass 3
  stopped_at_once pass = record { last = 3; serves = none; ends = stopped (refl, refl, refl) refl; unfallen = omega arith; own_ear = λ own. own }

  -- so its listener answered that it is stopped, as it was told to be
  was_told : (pass : AtPass) → pass.sessions < 2 ^ 64 - 1 → (last : ℕ) × stopped_host.answers 0 last Stopped 3 × stopped_host.is_told 0
  was_told pass numbered =
      told_where_nothing_failed stopped_host rules (post_at Home 0 None) pass 3 pass 3 (stopped_at_once pass) (λ rose. omega (arith, rose)) numbered
