use Rattle.std.proofs.Common.{map, string_bytes, sym}
use Rattle.passphrase_words.proofs.Reading.{front_help, front_version}
use Rattle.passphrase_words.proofs.words.read_words.Goals as goal

pub returns-in-Help-clause-read : goal.returns-in-Help-clause-read
returns-in-Help-clause-read c =
    front_help (map string_bytes c.args.words.now) (map string_bytes c.rest_of-rest.result.now) c.rest_of-rest.ensures.rest (sym c.in-Help.ensures)

pub returns-in-Version-clause-read : goal.returns-in-Version-clause-read
returns-in-Version-clause-read c =
    front_version (map string_bytes c.args.words.now) (map string_bytes c.rest_of-rest.result.now) c.rest_of-rest.ensures.rest (sym c.in-Version.ensures)
