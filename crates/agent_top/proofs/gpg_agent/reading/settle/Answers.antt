use Rattle.std.{proofs.{Common.{◌∙◌, ap, map, string_bytes}, lemmas.Result.err_from_is_err_and}, specs.Option.option_map}
use Rattle.agent_conf.specs.{Starts.texts_of, Told.told_by}
use Rattle.agent_top.{specs.GpgAgent.{meant, no_memory, no_memory_to_tell, refused}, proofs.GpgAgent.{refused_by, tells_as, tells_first_as}}
use Rattle.agent_top.proofs.gpg_agent.reading.settle.Goals as goal

pub returns-in_err-tell-in-Ok : goal.returns-in_err-tell-in-Ok
returns-in_err-tell-in-Ok g c =
    let p = err_from_is_err_and c.from_residual.result c.from_residual.ensures.1 in
    rw (p.1, p.2) (no_memory_to_tell (tells_first_as (ap (map told_by) c.deref.ensures.value ∙ c.in-Ok.ensures.start.told) c.in_err-tell-in-Ok.ensures))

pub returns-in_err-tell-in-Err-Refused : goal.returns-in_err-tell-in-Err-Refused
returns-in_err-tell-in-Err-Refused g c =
    let p = err_from_is_err_and c.from_residual-in_err-tell-in-Err-Refused.result c.from_residual-in_err-tell-in-Err-Refused.ensures.1 in
    rw (p.1, p.2) (no_memory_to_tell (tells_first_as (ap (map told_by) c.deref-in-Err-Refused.ensures.value ∙ (refused_by _ _ (texts_of (option_map (λ file. file.now) c.args.machine) (option_map (λ file. file.now) c.args.home) (map string_bytes c.args.words.now)) c.in-Err-Refused.field-0-is c.in-Err-Refused.ensures.refused).1) c.in_err-tell-in-Err-Refused.ensures))

pub returns-in_ok-tell-in-Ok : goal.returns-in_ok-tell-in-Ok
returns-in_ok-tell-in-Ok g c =
    meant c.in-Ok.ensures.start c.options_of.ensures
    (tells_as (ap (map told_by) c.deref.ensures.value ∙ c.in-Ok.ensures.start.told) c.in_ok-tell-in-Ok.ensures)

pub returns-in_ok-tell-in-Err-Refused : goal.returns-in_ok-tell-in-Err-Refused
returns-in_ok-tell-in-Err-Refused g c =
    refused (refused_by _ _ (texts_of (option_map (λ file. file.now) c.args.machine) (option_map (λ file. file.now) c.args.home) (map string_bytes c.args.words.now)) c.in-Err-Refused.field-0-is c.in-Err-Refused.ensures.refused).0
    (tells_as (ap (map told_by) c.deref-in-Err-Refused.ensures.value ∙ (refused_by _ _ (texts_of (option_map (λ file. file.now) c.args.machine) (option_map (λ file. file.now) c.args.home) (map string_bytes c.args.words.now)) c.in-Err-Refused.field-0-is c.in-Err-Refused.ensures.refused).1) c.in_ok-tell-in-Err-Refused.ensures)

pub returns-in-Err-NoMemory : goal.returns-in-Err-NoMemory
returns-in-Err-NoMemory g c = no_memory
