use native.Mathlib.Nat.{mul-zero}
use Rattle.std.proofs.{Common.{◌≡◌, ℕ, List, ◌+◌, ◌-◌, ◌%◌, ◌<◌, ◌++◌, max, length, take, ap, subst, sym, ◌∙◌, arith}, lemmas.List.{length-append, length-take}}
use Rattle.sha1.specs.Sha1.{Holds, sha1}
use Rattle.s2k_derive.{specs.S2k.copies_of, proofs.Repeats.{copies_of_zero, length_repeated, piece_cut, piece_more, piece_last}}
use Rattle.s2k_derive.proofs.derive.Goals as goal

pub pieces-init : goal.pieces-init
pieces-init c =
    let text = c.args.salt.now ++ c.args.pass.now in
    subst (λ (m : List ℕ). Holds c.new-hasher.result m) (sym (ap (copies_of text) (mul-zero _) ∙ copies_of_zero text)) c.new-hasher.ensures

pub pieces-preserved : goal.pieces-preserved
pieces-preserved c =
    let cut = piece_cut c.args.pass.now c.args.salt.now c.write_copies.new.copies c.told-salt c.write_copies.ensures in
    subst (λ (m : List ℕ). Holds c.update.new.self m) (piece_more _ _ c.pieces.counter cut) (c.update.ensures _ c.pieces.invariant)

pub returns : goal.returns
returns c =
    let text = c.args.salt.now ++ c.args.pass.now in
    let cut = piece_cut c.args.pass.now c.args.salt.now c.write_copies.new.copies c.told-salt c.write_copies.ensures in
    let n = 2048 - 2048 % (8 + length c.args.pass.now) in
    let size : length c.write_copies.new.copies ≡ 2048 = ap length c.write_copies.ensures ∙ length_repeated text 2048 in
    let pos : 0 < length (take n c.write_copies.new.copies) = omega (arith, length-take n c.write_copies.new.copies) in
    let all = piece_last _ _ c.max-total.result c.pieces.counter cut pos (omega arith) in
    let long : length text ≡ 8 + length c.args.pass.now = length-append _ _ ∙ ap (λ n. n + length c.args.pass.now) c.told-salt in
    let digest = c.finalize-digest.ensures _ (c.update-2.ensures _ c.pieces.invariant) in
    c.copy_from_slice.ensures.after ∙ ap (take 16) (digest ∙ ap sha1 (all ∙ ap (copies_of text) (c.max-total.ensures ∙ ap (max c.args.count) (sym long))))
