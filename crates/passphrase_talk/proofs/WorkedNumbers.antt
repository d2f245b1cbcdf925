-- How many bytes are taken in one contact: 1 MiB.
use Rattle.std.proofs.Common.{◌≡◌, refl}
use Rattle.passphrase_talk.specs.declared.visits.TheConstants.{BUDGET}

a_mebibyte : BUDGET ≡ 1048576
a_mebibyte = refl
