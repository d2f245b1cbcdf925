use Rattle.std.proofs.Common.{◌∙◌, ap}
use Rattle.agent_top.{specs.Cache.limits_of, proofs.Loading.load_or_none}
use Rattle.agent_top.proofs.load.load_tally.Goals as goal

pub returns : goal.returns
returns c =
    load_or_none c.args.number c.limits_of.result c.over-desk.result c.serve_sessions-served.new.desk c.tally_of_load-tally.result _ c.ok_or.result (c.limits_of.ensures ∙ ap limits_of c.default.ensures)
    (ap (λ s. s.limits) c.over-desk.ensures ∙ ap (λ k. k.limits) c.in_ok-core.ensures) (ap (λ s. s.run) c.over-desk.ensures) c.serve_sessions-served.ensures
    c.tally_of_load-tally.ensures c.ok_or.ensures.value
