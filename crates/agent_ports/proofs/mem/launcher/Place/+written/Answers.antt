use Rattle.std.{proofs.Common.{◌-◌, ap, sym, ◌∙◌}, specs.{Prelude.slice_get, Option.option_map}}
use Rattle.agent_ports.{specs.{Launches.Finished, Mem.Launches.latest_of}, proofs.Places.one_back}
use Rattle.agent_ports.proofs.mem.launcher.Place.+written.Goals as goal

pub returns-in-Some : goal.returns-in-Some
returns-in-Some t c =
    let back = one_back c.args.self.now c.in-Some.place c.args.back c.in-Some.is c.if-back-eq0.false in
    c.written-in-Some.ensures
    ∙ ap (λ place. option_map (λ (child : Finished). child.written) (slice_get (latest_of place) (c.args.back - 1))) c.deref.ensures
    ∙ ap (option_map (λ (child : Finished). child.written)) (sym back)
