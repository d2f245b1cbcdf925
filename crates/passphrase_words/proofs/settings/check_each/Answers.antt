use Rattle.std.{proofs.{Common.{◌≡◌, ◌∷◌, ℕ, List, Option, map, string_bytes, sym, ap, ◌∙◌, arith, rules}, lemmas.Grind.common_steps}, specs.Option.option_or}
use Rattle.passphrase_words.{specs.{Parts.{setting_value, settings}, Rules.are_sound, Refusals.settings_fault}, proofs.Sound.sound_head}
use Rattle.passphrase_words.proofs.settings.check_each.Goals as goal

pub returns-in-Err-clause-sound : goal.returns-in-Err-clause-sound
returns-in-Err-clause-sound c =
    let first : settings (map string_bytes c.loop-setting.rest.now) ≡ setting_value c.in-Some.setting ∷ settings (map string_bytes c.in-Some.after.now) =
    first_of (search rules, grind (arith, common_steps)) in (
      λ e. absurd (cc e),
      λ sound.
          c.in-Err.ensures.sound.1 (sound_head (setting_value c.in-Some.setting) (settings (map string_bytes c.in-Some.after.now)) (sym (ap are_sound first) ∙ c.loop-setting.invariant.0 ∙ sound)),
    )

pub returns-in-Err-clause-told : goal.returns-in-Err-clause-told
returns-in-Err-clause-told c =
    let first : settings (map string_bytes c.loop-setting.rest.now) ≡ setting_value c.in-Some.setting ∷ settings (map string_bytes c.in-Some.after.now) =
    first_of (search rules, grind (arith, common_steps)) in
    sym c.loop-setting.invariant.1 ∙ ap settings_fault first
    ∙ ap (λ (o : Option (List ℕ)). option_or o (settings_fault (settings (map string_bytes c.in-Some.after.now)))) c.in-Err.ensures.told
