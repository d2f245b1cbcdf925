use Rattle.std.{proofs.{Common.{◌+◌, List, ℕ, drop, map, sym, ap, ◌∙◌}, lemmas.List.drop_more}, specs.Option.{option_map, option_or}}
use Rattle.agent_conf.{specs.{Settled.last_of, Written.written, declared.setting.Setting.Setting}, proofs.LastLemmas.one_later}
use Rattle.agent_conf.proofs.settled.last_of.Goals as goal

pub loop-setting-preserved : goal.loop-setting-preserved
loop-setting-preserved c =
    let names : List (List ℕ) = map (λ name. name.now) c.args.names.now in
    one_later names _ (map written (drop (c.loop-setting.setting-index + 1) c.args.settings.now)) _ _ c.later-last.ensures
    ∙ ap (λ (left : List Setting). option_or (last_of names (map written left)) (option_map written c.loop-setting.last))
    (sym (drop_more c.args.settings.now c.loop-setting.setting-index _ c.loop-setting-test.true))
    ∙ c.loop-setting.invariant
