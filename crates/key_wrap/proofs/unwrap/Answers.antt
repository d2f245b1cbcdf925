use Rattle.std.{proofs.Common.{◌≡◌, ℕ, List, length, ap, ◌∙◌, sym}, specs.List.concat}
use Rattle.aes_block.specs.Aes.{IsBytes}
use Rattle.key_wrap.{specs.KeyWrap.{initial_value, unwrapped_of, wrapped_of, is_wrapped_length}, proofs.Undone.{IsPlain, start, is_wrapped_length_wrapped_of, unwrapped_of_wrapped_of, concat_start}}
use Rattle.key_wrap.proofs.unwrap.Goals as goal

pub returns-then-not-is_wrapped_len-clause-undoes : goal.returns-then-not-is_wrapped_len-clause-undoes
returns-then-not-is_wrapped_len-clause-undoes c plain bytes whole least most e =
    let p : IsPlain plain = record { bytes = bytes; whole = whole; least = least; most = most } in
    let yes =
    ap (λ b. is_wrapped_length (length b)) e
    ∙ is_wrapped_length_wrapped_of c.args.key.now plain (record { len = c.told-key; small = c.fits-key }) p in
    absurd (cc (yes, c.is_wrapped_len.ensures, c.if-not-is_wrapped_len.true))

opened : (key bytes plain : List ℕ) → IsBytes 16 key → IsPlain plain → bytes ≡ wrapped_of key plain → unwrapped_of key bytes ≡ start plain
opened key bytes plain h p e = ap (unwrapped_of key) e ∙ unwrapped_of_wrapped_of key plain h p

pub returns-then-ne-clause-undoes : goal.returns-then-ne-clause-undoes
returns-then-ne-clause-undoes c plain bytes whole least most e =
    let p : IsPlain plain = record { bytes = bytes; whole = whole; least = least; most = most } in
    let s = opened c.args.key.now c.args.bytes.now plain (record { len = c.told-key; small = c.fits-key }) p e in
    let same : c.in_ok-unwrapped.unwrapped.check ≡ initial_value = ap (λ r. r.check) (sym c.in_ok-unwrapped.ensures.registers ∙ s) in
    absurd (cc (rw same at c.ne.ensures, c.if-ne.true))

pub returns-clause-undoes : goal.returns-clause-undoes
returns-clause-undoes c plain bytes whole least most e =
    let p : IsPlain plain = record { bytes = bytes; whole = whole; least = least; most = most } in
    let s = opened c.args.key.now c.args.bytes.now plain (record { len = c.told-key; small = c.fits-key }) p e in
    let blocks = c.deref.ensures.value ∙ ap (λ r. r.blocks) (sym c.in_ok-unwrapped.ensures.registers ∙ s) in
    c.in_ok-plain.ensures.items ∙ ap concat blocks ∙ concat_start plain p
