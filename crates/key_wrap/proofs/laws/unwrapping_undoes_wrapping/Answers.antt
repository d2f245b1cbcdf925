use Rattle.std.{proofs.Common.{ap, ◌∙◌}, specs.List.concat}
use Rattle.key_wrap.{specs.KeyWrap.Registers, proofs.Undone.{IsPlain, unwrapped_of_wrapped_of, concat_start, is_wrapped_length_wrapped_of}}
use Rattle.key_wrap.proofs.laws.unwrapping_undoes_wrapping.Goals as goal

pub returns : goal.returns
returns c = λ key plain is_key bytes whole least most.
    let p : IsPlain plain = record { bytes = bytes; whole = whole; least = least; most = most } in
    let undone = unwrapped_of_wrapped_of key plain is_key p in (
      is_wrapped_length_wrapped_of key plain is_key p,
      ap (λ (s : Registers). concat s.blocks) undone ∙ concat_start plain p,
      ap (λ (s : Registers). s.check) undone,
    )
