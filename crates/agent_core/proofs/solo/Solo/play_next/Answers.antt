use Rattle.std.{specs.Prelude.List, proofs.Common.{ap, sym, ◌∙◌, append-nil}}
use Rattle.agent_core.{specs.{declared.foreign.Foreign.Foreign, SoloInside.lists_of, Solos.{next_list, at_end}}, proofs.Scripts.{lists_popped, lists_ended}}
use Rattle.agent_core.proofs.solo.Solo.play_next.Goals as goal

pub returns-in-Some-clause-next : goal.returns-in-Some-clause-next
returns-in-Some-clause-next g c =
    rw (sym c.self.view_is)
    (next_list c.in-Some.list.items (lists_of c.pop.new.self.items)
    (ap lists_of c.in-Some.ensures.items ∙ lists_popped c.pop.new.self.items c.in-Some.list) c.play.ensures.steps)

pub returns-in-None-clause-next : goal.returns-in-None-clause-next
returns-in-None-clause-next g c =
    rw (sym c.self.view_is)
    (at_end (lists_ended c.self.inside.script.items c.self.inside.script.len c.self.inside.script.ok.0 c.in-None.ensures.cases.0)
    (ap (λ (script : List (List Foreign)). record {
      limits = c.self.inside.known.limits;
      session = c.self.inside.session;
      run = c.self.inside.known.run;
      out = c.self.inside.out;
      holder = c.self.inside.holder;
      script = script;
      clock = g.C.Clock.readings c.self.inside.clock.clock;
    }) (ap lists_of (sym (append-nil c.pop.new.self.items) ∙ sym c.in-None.ensures.items))))
