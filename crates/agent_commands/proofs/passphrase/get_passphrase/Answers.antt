use Rattle.std.proofs.Common.{◌≡◌, ℕ, Bool, true, false, List, Option, Some, sym, ◌∙◌, refl}
use Rattle.agent_ask.proofs.ActionsDone.{action_turns}
use Rattle.agent_commands.{specs.{Exchanges.is_quiet, Requests.GetFields, declared.request.Texts.Texts}, proofs.Carrying.{beside_desk, asked_cache, wanted_else}}
use Rattle.agent_commands.proofs.passphrase.get_passphrase.Goals.{in_default-texts-via-in-Some+else-not-no_ask, in_default-texts-via-in_default-texts}
use Rattle.agent_commands.proofs.passphrase.get_passphrase.Goals as goal

abbrev fields : Bool → Bool → Bool → ℕ → Bool → Option (List ℕ) → Option Texts → GetFields
fields plain check no_ask repeat quality id texts = record {
  plain = plain;
  check = check;
  no_ask = no_ask;
  repeat = repeat;
  quality = quality;
  id = id;
  texts = texts;
}

pub returns-in-Ask-clause-comes : goal.returns-in-Ask-clause-comes
returns-in-Ask-clause-comes g c =
    rw (c.in-GetPassphrase.is, c.in-Some.is, c.if-not-no_ask.true, sym c.mode.ensures ∙ c.in-Ask.is) c.by_user.ensures.comes

pub returns-in_default-mode-clause-comes : goal.returns-in_default-mode-clause-comes
returns-in_default-mode-clause-comes g c =
    rw (c.in-GetPassphrase.is, c.in-Some.is, c.if-not-no_ask.true, c.requires.none, ← c.mode.ensures)
    (wanted_else c.args.rules.now c.args.options.now
    (fields c.in-GetPassphrase.plain c.in-GetPassphrase.check false c.in-GetPassphrase.repeat c.in-GetPassphrase.quality c.in-GetPassphrase.id (Some c.in-Some.texts)) _ c.mode.result c.in_default-mode.not-Ask
    (beside_desk g.D.Desk.turned g.P.Prompter.prompted c.args.prompter.now c.without_prompt.ensures.comes))

pub returns-in_default-texts-clause-comes : goal.returns-in_default-texts-clause-comes
returns-in_default-texts-clause-comes g c =
    let quiets : is_quiet c.in-GetPassphrase.no_ask c.in-GetPassphrase.texts ≡ true =
    elim c.in_default-texts.branch [
      | in_default-texts-via-in-Some+else-not-no_ask w ↦ rw w.in-Some.is w.if-not-no_ask.false
      | in_default-texts-via-in_default-texts w ↦ rw w.in_default-texts.is refl
    ] in
    rw (c.in-GetPassphrase.is, c.requires.none)
    (asked_cache c.args.rules.now c.args.options.now
    (fields c.in-GetPassphrase.plain c.in-GetPassphrase.check c.in-GetPassphrase.no_ask c.in-GetPassphrase.repeat c.in-GetPassphrase.quality c.in-GetPassphrase.id
    (c.in-GetPassphrase.texts)) c.in-GetPassphrase.no_ask c.in-GetPassphrase.texts quiets
    (beside_desk g.D.Desk.turned g.P.Prompter.prompted c.args.prompter.now (action_turns c.requires.open c.by_cache.ensures.turn)))
