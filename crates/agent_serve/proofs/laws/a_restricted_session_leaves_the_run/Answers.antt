use Rattle.{agent_ask.specs.Session.SessionEvents.turns_in, agent_ports.specs.Readings.Readings, agent_origin.proofs.{OuterRuns.leaves_desk, OuterSessions.outer_leaves, Turning.turns_lead}}
use Rattle.counted_lock.specs.Turns.{AtCountedDesk, CountedTurn, at_counted}
use Rattle.agent_serve.proofs.laws.a_restricted_session_leaves_the_run.Goals as goal

pub returns : goal.returns
returns g c = λ path rules session before after pass now end serves.
    let leaves = outer_leaves rules serves.served.session in (
      leaves,
      leaves_desk (λ (d : AtCountedDesk Readings). at_counted d.pass d.session d.out) (CountedTurn (λ (readings : Readings). readings)) (λ before asked turn after does. does.is) _ _
          (turns_in serves.served.events) leaves (turns_lead serves.served.leads),
    )
