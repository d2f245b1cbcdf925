use Rattle.std.{proofs.Common.{◌≡◌, ◌++◌, rules, sym, subst, true, ℕ, List}, specs.Prelude.codes}
use Rattle.hex.specs.Hex.{encode_lower}
use Rattle.passphrase_words.{specs.Ids.is_id, proofs.LineParts.askpass_is_id}
use Rattle.passphrase_words.proofs.ids.id_of_digest.Goals as goal

pub returns-clause-id : goal.returns-clause-id
returns-clause-id c =
    let value : c.try_extend_from_slice-2.new.self.items ≡ codes "askpass:" ++ encode_lower c.args.digest.now = search rules in
    subst (λ (id : List ℕ). is_id id ≡ true) (sym value) (askpass_is_id c.args.digest.now (λ i. (c.type_inv.digest i).fits) c.requires)
