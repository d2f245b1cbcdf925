use Rattle.std.specs.Option.{option_map}
use Rattle.passphrase_words.proofs.LineParts.{fits_from}
use Rattle.passphrase_words.proofs.words.read_askpass.Goals as goal

pub invariant_of-result : goal.invariant_of-result
invariant_of-result c =
    record {
      fits = fits_from c.askpass_id-id.result.items c.in_ok-texts.texts.items (option_map (λ prompt. prompt.now) c.prompt_for.result) c.in-Some.text.now
          c.askpass_id-id.ensures.id c.in_ok-texts.ensures.texts c.in_ok-texts.ensures.short;
    }
